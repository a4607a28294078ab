-- The step of the invariant over one record, from the cases of the kinds.
use Rattle.std.proofs.Common.{◌≡◌, ◌≢◌, ◌⊎◌, ◌≤◌, ℕ, suc, [], ◌∷◌, length, sym, ap, subst, inl, inr, arith}
use Rattle.page_types.specs.declared.page.Page.{Page}
use Rattle.page_types.specs.declared.page.Body.TheVariants as body
use Rattle.page_types.specs.declared.record.Record.{Record}
use Rattle.core_state.specs.Log.{Log, Pages, In, Shows, changed}
use Rattle.core_state.specs.Legal.{RuleHolds}
use Rattle.core_state.specs.Trees.Nodes.TreePlace.{none}
use Rattle.core_state.specs.Trees.Ext.Ext.{least, greatest}
use Rattle.core_state.specs.Trees.TreeNodes.{entry_nodes, post_nodes}
use Rattle.core_state.specs.Inner.Effects.{Effects}
use Rattle.core_state.proofs.Law.LineEffects.{pending_stays, rows_back}
use Rattle.core_state.specs.Inner.Ghosts.{Ghost, entry_place, post_place, entry_ghost, post_ghost}
use Rattle.core_state.specs.Inner.Ghosts.Place.{unused, meta, overflow_of}
use Rattle.core_state.proofs.Showing.{none_yet, shown_one, shown_none, others_stay}
use Rattle.core_state.proofs.Monotone.{rule_more}
use Rattle.core_state.proofs.PageLists.{in_or_not}
use Rattle.core_state.specs.Inner.PageKinds.{Touched}
use Rattle.core_state.proofs.TouchedPages.{none_free, touched}
use Rattle.core_state.proofs.HeadSteps.{HeadStep, head_step}
use Rattle.core_state.proofs.FateSteps.{fate_step, dead_stays}
use Rattle.core_state.proofs.HeadsFollow.{heads_follow}
use Rattle.core_state.proofs.ChainFrames.{whole_stays}
use Rattle.core_state.proofs.StaysIndexed.{indexed_follows}
use Rattle.core_state.proofs.Trees.Orders.{keys, items, key_order, nat_order, ext_top}
use Rattle.core_state.proofs.Trees.RootedSteps.{rooted_step}
use Rattle.core_state.proofs.Trees.Steps.{Step, step_keeps}
use Rattle.core_state.specs.Trees.Nodes.{Sane}
use Rattle.core_state.proofs.Law.Rooted.{AreRooted}
use Rattle.core_state.proofs.Law.MainPlaces.{PostsHold}
use Rattle.core_state.proofs.Law.Belows.{main_at, at_main}
use Rattle.core_state.proofs.Law.Invariant.{Inv}
use Rattle.core_state.proofs.Law.Steps.{Before, Left, Case, Cases, After, StepHolds}
use Rattle.core_state.proofs.Law.Places.{place_for}
use Rattle.core_state.proofs.Law.ChainsStay.{overflows}

-- the case of the record's kind
pub case_of : Cases → (n L : ℕ) (R : Log) (P Q : Pages) (r : Record) (floor since : ℕ) (g : Ghost)
    → Before n L R P Q r floor since g → Left n since R P Q r
    → RuleHolds R P Q r floor since → (g' : Ghost) × Case n L R P Q r g g'
case_of c n L R P Q r floor since g b d (RuleHolds.create v) = c.create n L R P Q r floor since g b d v
case_of c n L R P Q r floor since g b d (RuleHolds.begin v) = c.begin n L R P Q r floor since g b d v
case_of c n L R P Q r floor since g b d (RuleHolds.commit v) = c.commit n L R P Q r floor since g b d v
case_of c n L R P Q r floor since g b d (RuleHolds.abort v) = c.abort n L R P Q r floor since g b d v
case_of c n L R P Q r floor since g b d (RuleHolds.checkpoint v) = c.checkpoint n L R P Q r floor since g b d v
case_of c n L R P Q r floor since g b d (RuleHolds.place_head v) = c.place_head n L R P Q r floor since g b d v
case_of c n L R P Q r floor since g b d (RuleHolds.put_overflow v) = c.put_overflow n L R P Q r floor since g b d v
case_of c n L R P Q r floor since g b d (RuleHolds.mark_deleted v) = c.mark_deleted n L R P Q r floor since g b d v
case_of c n L R P Q r floor since g b d (RuleHolds.put_pending v) = c.put_pending n L R P Q r floor since g b d v
case_of c n L R P Q r floor since g b d (RuleHolds.add_row v) = c.add_row n L R P Q r floor since g b d v
case_of c n L R P Q r floor since g b d (RuleHolds.link_pending v) = c.link_pending n L R P Q r floor since g b d v
case_of c n L R P Q r floor since g b d (RuleHolds.shift v) = c.shift n L R P Q r floor since g b d v
case_of c n L R P Q r floor since g b d (RuleHolds.add_items v) = c.add_items n L R P Q r floor since g b d v
case_of c n L R P Q r floor since g b d (RuleHolds.make_tree v) = c.make_tree n L R P Q r floor since g b d v
case_of c n L R P Q r floor since g b d (RuleHolds.add_postings v) = c.add_postings n L R P Q r floor since g b d v
case_of c n L R P Q r floor since g b d (RuleHolds.grow_root v) = c.grow_root n L R P Q r floor since g b d v
case_of c n L R P Q r floor since g b d (RuleHolds.split v) = c.split n L R P Q r floor since g b d v
case_of c n L R P Q r floor since g b d (RuleHolds.remove_items v) = c.remove_items n L R P Q r floor since g b d v
case_of c n L R P Q r floor since g b d (RuleHolds.delete_post v) = c.delete_post n L R P Q r floor since g b d v
case_of c n L R P Q r floor since g b d (RuleHolds.drop_page v) = c.drop_page n L R P Q r floor since g b d v
case_of c n L R P Q r floor since g b d (RuleHolds.free_slots v) = c.free_slots n L R P Q r floor since g b d v

is_some : (s : Record) (S : Log) → s ∷ S ≢ []
is_some s S e = cc

-- page 0 is in no tree
pub page_0 : (n L : ℕ) (R : Log) (P : Pages) (g : Ghost) → Inv n L R P g → Shows R P
    → (g.place 0 ≡ unused) ⊎ (g.place 0 ≡ meta)
page_0 n L [] P g v shown =
    inl (place_for L (g.place 0) (P 0) body.Free (v.kinds 0)
    (ap (λ (T : Pages). (T 0).body) (shown_one [] P none_yet shown shown_none)))
page_0 n L (s ∷ S) P g v shown = inr (v.starts.page_0 (is_some s S))

entry_none : (g : Ghost) → (g.place 0 ≡ unused) ⊎ (g.place 0 ≡ meta) → (entry_ghost g).place 0 ≡ none
entry_none g (inl e) = ap entry_place e
entry_none g (inr e) = ap entry_place e

post_none : (g : Ghost) → (g.place 0 ≡ unused) ⊎ (g.place 0 ≡ meta) → (post_ghost g).place 0 ≡ none
post_none g (inl e) = ap post_place e
post_none g (inr e) = ap post_place e

module _ (n L : ℕ) (R : Log) (P Q : Pages) (r : Record) (floor since : ℕ) (g : Ghost)
    (b : Before n L R P Q r floor since g) (row : RuleHolds R P Q r floor since) where
  elsewhere : (q : ℕ) → (In q (changed r) → ⊥) → Q q ≡ P q
  elsewhere q off = others_stay R r P Q b.shown b.shown_after q off

  touch : (p : ℕ) → In p (changed r) → Touched P Q r since p
  touch = touched R P Q r floor since (none_free R P b.shown) row

  stamps : (p : ℕ) → (Q p).stamp ≤ suc (length R)
  stamps p = elim (in_or_not p (changed r)) [
    | inl i ↦ let e = (touch p i).stamp in omega (arith, e, b.number)
    | inr off ↦ let small = b.inv.starts.stamps p in subst (λ (q : Page). q.stamp ≤ suc (length R))
        (sym (elsewhere p off)) (omega (arith, small))
  ]

  -- the rule with the floor n
  row_n : RuleHolds R P Q r n since
  row_n = rule_more R P Q r floor since n since b.floor_is (omega arith) row

  turns : HeadStep R P Q r n
  turns = head_step R P Q r n since touch elsewhere row_n

  pub left : Left n since R P Q r
  left = record {
    touched = touch;
    elsewhere = elsewhere;
    turns = turns;
    heads = heads_follow n R P Q r n since b.inv.heads (omega arith) row_n turns;
    dead = dead_stays R r b.inv.heads.xids (fate_step R P Q r floor since b.inv.heads.xids row) n;
    stamps = stamps;
    whole = whole_stays R P Q r n since row_n touch elsewhere turns (λ i q. g.place q ≡ overflow_of i)
        (overflows n L R P g b.inv);
  }

  nil : (g.place 0 ≡ unused) ⊎ (g.place 0 ≡ meta)
  nil = page_0 n L R P g b.inv b.shown

  module _ (g' : Ghost) (c : Case n L R P Q r g g') where
    posts : Sane items greatest (post_nodes Q) (post_ghost g')
    posts = step_keeps items least greatest (ext_top nat_order) tt (post_nodes P) (post_nodes Q)
        (post_ghost g) b.inv.posts (post_none g nil) (post_ghost g') c.trees.posts.0

    rooted : AreRooted least greatest (post_nodes Q) (post_ghost g')
    rooted = rooted_step items least greatest (post_nodes P) (post_nodes Q) (post_ghost g)
        (post_ghost g') b.inv.posts b.inv.posts_rooted c.trees.posts.0

    before : PostsHold L P g
    before = record { kinds = b.inv.kinds; posts = b.inv.posts; rooted = b.inv.posts_rooted; named = b.inv.named }

    behind : PostsHold L Q g'
    behind = record { kinds = c.kinds; posts = posts; rooted = rooted; named = c.named }

    effects : Effects R P Q n
    effects = record {
      whole = left.whole;
      pending = pending_stays R (r ∷ R) P Q g g' b.inv.lined c.lined c.line;
      main = λ k i m. elim (c.main k i (main_at L P g before k i m))
          [ inl now ↦ inl (at_main L Q g' behind k i now) | inr gone ↦ inr gone.may ];
      rows = rows_back R (r ∷ R) P Q g g' b.inv.lined c.lined c.line;
    }

    grows : Step keys least greatest (entry_nodes P) (entry_nodes Q) (entry_ghost g) (entry_ghost g')
    grows = Step.grows c.trees.entries.0

    -- the invariant from a case
    pub case_keeps : Inv n L (r ∷ R) Q g'
    case_keeps = record {
      kinds = c.kinds;
      starts = c.starts;
      lined = c.lined;
      entries = step_keeps keys least greatest (ext_top key_order) tt (entry_nodes P) (entry_nodes Q)
          (entry_ghost g) b.inv.entries (entry_none g nil) (entry_ghost g') grows;
      posts = posts;
      named = c.named;
      entries_rooted = rooted_step keys least greatest (entry_nodes P) (entry_nodes Q) (entry_ghost g)
          (entry_ghost g') b.inv.entries b.inv.entries_rooted grows;
      posts_rooted = rooted;
      chained = c.chained;
      heads = left.heads;
      rows_owned = c.rows_owned;
      items_owned = c.items_owned;
      grouped = c.grouped;
      indexed = indexed_follows n n R P Q r n since b.inv.heads
          (omega arith) row_n turns effects b.inv.indexed b.shown_after left.heads;
    }

  pub step_of : Cases → After n L R P Q r g
  step_of cases =
      let c = case_of cases n L R P Q r floor since g b left row in
      record { ghost = c.0; case = c.1; effects = effects c.0 c.1; inv = case_keeps c.0 c.1 }

pub step_holds : Cases → StepHolds
step_holds cases n L R P Q r floor since g b row = step_of n L R P Q r floor since g b row cases

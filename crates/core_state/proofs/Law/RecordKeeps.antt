-- What one record more leaves as it is.
use Rattle.std.proofs.Common.{◌≡◌, ◌≢◌, ◌⊎◌, ◌≤◌, ℕ, suc, [], ◌∷◌, length, refl, sym, ap, subst, subst₂, ◌∙◌, inl, inr}
use Rattle.std.proofs.Common.{arith}
use Rattle.std.specs.Prelude.{⊤, None}
use Rattle.ts_base.specs.Keys.{Key}
use Rattle.page_types.specs.Views.{slots_of, slot_at}
use Rattle.page_types.specs.Records.{kind_number}
use Rattle.page_types.specs.declared.page.Page.{Page}
use Rattle.page_types.specs.declared.page.Row.{Row}
use Rattle.page_types.specs.declared.record.Record.{Record}
use Rattle.page_types.specs.declared.record.Kind.{Kind}
use Rattle.page_types.specs.declared.record.Kind.TheVariants as kind
use Rattle.core_state.specs.Log.{Log, Pages, In, changed, commits}
use Rattle.core_state.specs.Documents.{Doc, page_of, slot_of, head_of}
use Rattle.core_state.specs.Index.{IsLinked, Main}
use Rattle.core_state.specs.Legal.{Valid, RecordsAreValid}
use Rattle.core_state.specs.RecordKeeps.{IsOwnRow, SameHeads, SameRows, SameMain, TreesStay, PlacingKeeps}
use Rattle.core_state.specs.RecordKeeps.{RemovingKeeps, DeletingKeeps, DroppingKeeps, FreeingKeeps, RecordKeeps}
use Rattle.core_state.specs.RecordKeeps.{RecordsKeep}
use Rattle.core_state.specs.Inner.PageKinds.{ChangesLine, ChangesTrees, Touched}
use Rattle.core_state.specs.Inner.Ghosts.Place.{overflow_of, private_of}
use Rattle.core_state.proofs.Showing.{shown_one}
use Rattle.core_state.proofs.PageLists.{same_or_not, in_or_not}
use Rattle.core_state.proofs.RulesByKind.{kind_rule}
use Rattle.core_state.proofs.HeadSteps.{TurnsHead, HeadStep}
use Rattle.core_state.proofs.StaysIndexed.{placed_by_head}
use Rattle.core_state.proofs.SteadyPages.{touches, elsewhere}
use Rattle.core_state.proofs.SteadyEnds.{heads_step}
use Rattle.core_state.proofs.KeptHeads.{running_keeps}
use Rattle.core_state.proofs.KeptTrees.{SameTrees, same_back, below_same, main_same, root_same, tree_stays, trees_stay}
use Rattle.core_state.proofs.Law.Belows.{main_at, at_main}
use Rattle.core_state.proofs.Law.Bounded.{posts_hold}
use Rattle.core_state.proofs.Law.LineEffects.{row_back}
use Rattle.core_state.proofs.Law.ChainsStay.{overflows, privates}
use Rattle.core_state.proofs.Law.RootTrees.{root_tree}
use Rattle.core_state.proofs.Law.RowFrames.{rows_same}
use Rattle.core_state.proofs.Law.RemovedPairs.{removed_pairs, no_pair_comes, deleted_adds_none}
use Rattle.core_state.proofs.Law.RunningStays.{linked_was, not_create}
use Rattle.core_state.proofs.Law.Steps.{StepHolds, After}
use Rattle.core_state.proofs.Law.Runs.{Holds, plain_run, step_over}

-- a record of this kind moves or removes pairs, and changes no head
abbrev IsTreeWork : Kind → Type 0
IsTreeWork kind.AddItems = ⊤
IsTreeWork kind.MakeTree = ⊤
IsTreeWork kind.AddPostings = ⊤
IsTreeWork kind.GrowRoot = ⊤
IsTreeWork kind.Split = ⊤
IsTreeWork kind.RemoveItems = ⊤
IsTreeWork kind.DeletePost = ⊤
IsTreeWork _ = ⊥

placing_works : (k : Kind) → 13 ≤ kind_number k → kind_number k ≤ 17 → IsTreeWork k × (k ≢ kind.RemoveItems)
placing_works kind.Create a b = absurd (omega (arith, a))
placing_works kind.Begin a b = absurd (omega (arith, a))
placing_works (kind.Commit n) a b = absurd (omega (arith, a))
placing_works kind.Abort a b = absurd (omega (arith, a))
placing_works (kind.Checkpoint redo) a b = absurd (omega (arith, a))
placing_works (kind.PlaceHead i s) a b = absurd (omega (arith, a))
placing_works (kind.PutOverflow i s) a b = absurd (omega (arith, a))
placing_works (kind.MarkDeleted i s) a b = absurd (omega (arith, a))
placing_works (kind.PutPending i s) a b = absurd (omega (arith, a))
placing_works (kind.AddRow i s) a b = absurd (omega (arith, a))
placing_works (kind.LinkPending i s) a b = absurd (omega (arith, a))
placing_works kind.Shift a b = absurd (omega (arith, a))
placing_works kind.AddItems a b = (tt, λ e. cc)
placing_works kind.MakeTree a b = (tt, λ e. cc)
placing_works kind.AddPostings a b = (tt, λ e. cc)
placing_works kind.GrowRoot a b = (tt, λ e. cc)
placing_works kind.Split a b = (tt, λ e. cc)
placing_works kind.RemoveItems a b = absurd (omega (arith, b))
placing_works kind.DeletePost a b = absurd (omega (arith, b))
placing_works (kind.DropPage i s) a b = absurd (omega (arith, b))
placing_works kind.FreeSlots a b = absurd (omega (arith, b))

-- it changes no linked row and no head
no_line : (k : Kind) → IsTreeWork k → ChangesLine k → ⊥
no_line (kind.AddRow i s) w c = w
no_line (kind.LinkPending i s) w c = w
no_line kind.Shift w c = w
no_line _ w c = c

no_turn : (k : Kind) (d : Doc) → IsTreeWork k → TurnsHead k d → ⊥
no_turn (kind.PutOverflow i s) d w t = w
no_turn (kind.MarkDeleted i s) d w t = w
no_turn (kind.PutPending i s) d w t = w
no_turn (kind.LinkPending i s) d w t = w
no_turn (kind.DropPage i s) d w t = w
no_turn _ d w t = t

module _ (step : StepHolds) (R : Log) (r : Record) (some : R ≢ []) (valid : RecordsAreValid R)
    (u : Valid R r (commits R) (suc (length R))) where
  abbrev P : Pages
  P = u.before

  abbrev Q : Pages
  Q = u.after

  abbrev n : ℕ
  n = commits R

  abbrev L : ℕ
  L = length R

  abbrev since : ℕ
  since = suc (length R)

  h : Holds n L R P
  h = plain_run step R valid P u.shown

  a : After n L R P Q r h.0
  a = step_over step n L R r n since u (omega arith) (inr refl) (omega arith) P Q h.0 u.shown u.shown_after h.1

  touch : (p : ℕ) → In p (changed r) → Touched P Q r since p
  touch = touches R r n since u

  other : (q : ℕ) → (In q (changed r) → ⊥) → Q q ≡ P q
  other = elsewhere R r n since u

  turns : HeadStep R P Q r n
  turns = heads_step R r n since u

  later : r.kind ≢ kind.Create
  later = not_create R r n since u some

  -- a linked row was linked, or is of the record's transaction
  own_rows : (w : Row) → IsLinked Q w → IsLinked P w ⊎ IsOwnRow R P r.xid w
  own_rows w k = elim (row_back R (r ∷ R) P Q h.0 a.ghost h.1.lined a.inv.lined a.case.line w k) [
    | inl old ↦ inl old
    | inr new ↦ elim (same_or_not r.xid new.head.inserted_by) [
      | inl by ↦ inr (record {
        doc = new.doc;
        head = new.head;
        item = new.item;
        has = new.has;
        placed_by = subst (λ (x : ℕ). In new.doc (Rattle.core_state.specs.Documents.placed R x)) by
            (placed_by_head n R P h.1.heads new.doc new.head new.has);
      })
      | inr off ↦ inl (linked_was n L L R P Q r n since h.0 a.ghost h.1 a.inv u.rule touch other later new.doc new.head
          new.has (running_keeps R P Q r n since u.rule touch other h.0.line (λ i q. h.0.place q ≡ overflow_of i)
          (λ i q. h.0.place q ≡ private_of i) (overflows n L R P h.0 h.1) (privates n L R P h.0 h.1) n h.1.heads
          (omega arith) turns new.doc new.head new.has new.runs off) off w (sym new.item) k)
    ]
  ]

  heads_same : IsTreeWork r.kind → SameHeads P Q
  heads_same w = go turns
    where
      go : HeadStep R P Q r n → SameHeads P Q
      go (HeadStep.same s) = s
      go (HeadStep.placed d k is free has new rest) = absurd (subst IsTreeWork is w)
      go (HeadStep.turned d k k' was now t rest) = absurd (no_turn r.kind d w t.by)
      go (HeadStep.freed is each) = absurd (subst IsTreeWork is w)

  same_rows : (ChangesLine r.kind → ⊥) → SameRows P Q
  same_rows = rows_same n L R P Q r since h.0 h.1 some touch other later

  -- no pair leaves but by a record that removes items
  main_on : r.kind ≢ kind.RemoveItems → (k : Key) (i : ℕ) → Main P k i → Main Q k i
  main_on off k i m = elim (a.case.main k i (main_at L P h.0 (posts_hold n L R P h.0 h.1) k i m)) [
    | inl now ↦ at_main L Q a.ghost (posts_hold n L (r ∷ R) Q a.ghost a.inv) k i now
    | inr gone ↦ absurd (off gone.by)
  ]

  placing : 13 ≤ kind_number r.kind → kind_number r.kind ≤ 17 → PlacingKeeps P Q
  placing low high =
      let w = placing_works r.kind low high in
      record { heads = heads_same w.0; rows = same_rows (no_line r.kind w.0); main = main_on w.1 }

  removing : r.kind ≡ kind.RemoveItems → RemovingKeeps R P Q r
  removing e =
      let w : IsTreeWork r.kind = subst IsTreeWork (sym e) tt in
      record {
        heads = heads_same w;
        rows = same_rows (no_line r.kind w);
        main = λ floor x. removed_pairs R P Q r floor x other;
        no_more = no_pair_comes R P Q r n (kind_rule R P Q r n since kind.RemoveItems e u.rule) other;
      }

  deleting : r.kind ≡ kind.DeletePost → DeletingKeeps P Q
  deleting e =
      let w : IsTreeWork r.kind = subst IsTreeWork (sym e) tt in
      record {
        heads = heads_same w;
        rows = same_rows (no_line r.kind w);
        main = λ k i. (
          main_on (λ f. let g : kind.DeletePost ≡ kind.RemoveItems = sym e ∙ f in cc) k i,
          deleted_adds_none R P Q r (kind_rule R P Q r n since kind.DeletePost e u.rule) other k i,
        );
      }

  -- a record that changes no tree
  module _ (no_trees : ChangesTrees r.kind → ⊥) where
    same : SameTrees P Q
    same = trees_stay P Q r since touch other no_trees later

    back : SameTrees Q P
    back = same_back P Q same

    same_main : SameMain P Q
    same_main k i = (main_same P Q same k i, main_same Q P back k i)

    trees : TreesStay P Q
    trees = record {
      pages = λ root p is below. tree_stays P Q r since touch other no_trees later p
          (root_tree n L R P h.0 h.1 some root p is below);
      no_more = λ root p is below. (root_same Q P back root is, below_same Q P back root p below);
    }

  dropping : (item serial : ℕ) → r.kind ≡ kind.DropPage item serial → DroppingKeeps P Q item
  dropping item serial e =
      let quiet : ChangesTrees r.kind → ⊥ = λ c. subst ChangesTrees e c in
      record {
        heads = go turns;
        rows = same_rows (λ c. subst ChangesLine e c);
        main = same_main quiet;
        trees = trees quiet;
      }
    where
      go : HeadStep R P Q r n → (i : ℕ) → i ≢ item → head_of Q i ≡ head_of P i
      go (HeadStep.same s) i off = s i
      go (HeadStep.placed d k is free has new rest) i off =
          let f : kind.DropPage item serial ≡ kind.PlaceHead d.item d.serial = sym e ∙ is in absurd (cc)
      go (HeadStep.turned d k k' was now t rest) i off =
          let by = subst (λ (z : Kind). TurnsHead z d) e t.by in rest i (λ f. off (f ∙ sym by.0))
      go (HeadStep.freed is each) i off =
          let f : kind.DropPage item serial ≡ kind.FreeSlots = sym e ∙ is in absurd (cc)

  freeing : r.kind ≡ kind.FreeSlots → FreeingKeeps P Q r
  freeing e =
      let quiet : ChangesTrees r.kind → ⊥ = λ c. subst ChangesTrees e c in
      record {
        heads = go turns;
        rows = same_rows (λ c. subst ChangesLine e c);
        main = same_main quiet;
        trees = trees quiet;
      }
    where
      go : HeadStep R P Q r n → (i : ℕ) → (head_of Q i ≡ head_of P i)
          ⊎ (In (page_of i) (changed r) × (head_of Q i ≡ None))
      go (HeadStep.same s) i = inl (s i)
      go (HeadStep.placed d k is free has new rest) i =
          let f : kind.FreeSlots ≡ kind.PlaceHead d.item d.serial = sym e ∙ is in absurd (cc)
      go (HeadStep.turned d k k' was now t rest) i = absurd (subst (λ (z : Kind). TurnsHead z d) e t.by)
      go (HeadStep.freed is each) i = elim (each i) [
        | inl s ↦ inl s
        | inr f ↦ elim (in_or_not (page_of i) (changed r)) [
          | inl on ↦ inr (on, f.is)
          | inr off ↦ inl (ap (λ (p : Page). slot_at (slots_of p) (slot_of i)) (other (page_of i) off))
        ]
      ]

  pub keeps_here : RecordKeeps R P Q r
  keeps_here = record {
    own_rows = own_rows;
    placing = placing;
    removing = removing;
    deleting = deleting;
    dropping = dropping;
    freeing = freeing;
  }

pub records_keep : StepHolds → RecordsKeep
records_keep step R r P Q some legal shown shown' =
    let v = legal.valid in
    subst₂ (λ (S T : Pages). RecordKeeps R S T r) (shown_one R v.1.before P v.1.shown shown)
    (shown_one (r ∷ R) v.1.after Q v.1.shown_after shown')
    (keeps_here step R r some v.0 v.1)

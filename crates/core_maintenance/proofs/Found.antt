-- What was found of the index is so still where its pages stay.
use Rattle.std.proofs.Common.{◌≡◌, ℕ, List, refl, sym, subst}
use Rattle.ts_base.specs.Keys.{Key}
use Rattle.page_types.specs.Views.{entries_in, entries_of}
use Rattle.page_types.specs.declared.page.Page.{Page}
use Rattle.page_types.specs.declared.page.Entry.{Entry}
use Rattle.page_types.specs.declared.page.Body.{Body}
use Rattle.page_types.specs.declared.page.Body.TheVariants as body
use Rattle.core_state.specs.Log.{Log, Pages, In, Shows}
use Rattle.core_state.specs.Index.{Below, Pending, IsNamed}
use Rattle.core_state.specs.TreeRules.{IsRoot}
use Rattle.core_state.specs.Legal.{IsLegal}
use Rattle.core_state.specs.Steady.{IndexStays}
use Rattle.core_state.proofs.LawsHold.{bullets, steady}
use Rattle.core_state.proofs.Steps.Seen.{seen_legal}
use Rattle.core_maintenance.specs.MovingSteps.{IsAllMain}
use Rattle.core_maintenance.specs.Staying.{FoundStays, FoundHolds, RightKeepsFound}
use Rattle.core_maintenance.proofs.Ways.{toward_kept, toward_item_kept, toward_below, toward_item_below}
use Rattle.core_maintenance.proofs.Heights.{high_kept, high_post_kept}
use Rattle.core_maintenance.proofs.Right.{index_stays}

-- a page with an entry is a leaf of the entry tree
on_leaf : (b : Body) (e : Entry) → In e (entries_in b)
    → (high : Key) × (es : List Entry) × (b ≡ body.EntryLeaf high es) × In e es
on_leaf (body.EntryLeaf high es) e i = (high, es, refl, i)
on_leaf body.Free e i = absurd i
on_leaf (body.Meta first last count) e i = absurd i
on_leaf (body.Heap slots) e i = absurd i
on_leaf (body.Overflow bytes) e i = absurd i
on_leaf (body.Pending rows) e i = absurd i
on_leaf (body.EntryInner cs) e i = absurd i
on_leaf (body.PostLeaf high is) e i = absurd i
on_leaf (body.PostInner cs) e i = absurd i
on_leaf (body.Deleted gone) e i = absurd i

-- so it is below page 1
entry_below : (R : Log) (P : Pages) → IsLegal R → Shows R P → (p : ℕ) (e : Entry) → In e (entries_of (P p))
    → Below P 1 p
entry_below R P legal shown p e i =
    let l = on_leaf (P p).body e i in
    toward_below P 1 e.key 1 p Below.root ((bullets R P legal shown).bounded.entries p l.0 l.1 e l.2 l.3).0

module _ (R R' : Log) (P Q : Pages) (legal : IsLegal R) (shown : Shows R P) (stay : IndexStays R R' P Q) where
  named_stays : (k : Key) (root : ℕ) → IsNamed P k root → IsNamed Q k root
  named_stays k root n =
      let same = stay.trees 1 n.page IsRoot.of_entries (entry_below R P legal shown n.page n.entry n.on) in
      record {
        page = n.page;
        entry = n.entry;
        on = subst (λ (p : Page). In n.entry (entries_of p)) (sym same) n.on;
        key = n.key;
        names = n.names;
      }

  roots_stay : (root : ℕ) → IsRoot P root → IsRoot Q root
  roots_stay _ IsRoot.of_entries = IsRoot.of_entries
  roots_stay root (IsRoot.of_postings k n) = IsRoot.of_postings k (named_stays k root n)

  pending_stays : (k : Key) (i : ℕ) → Pending P k i → Pending Q k i
  pending_stays k i p = record { row = p.row; linked = stay.rows p.row p.linked; item = p.item; key = p.key }

  all_main_stays : (i : ℕ) → IsAllMain P i → IsAllMain Q i
  all_main_stays i m = (m.0, m.1, m.2, stay.whole m.0 m.1 m.3, λ k j. (stay.main k i).0 (m.4 k j))

  pub found_stays : FoundStays P Q
  found_stays = record {
    toward = λ k p w. toward_kept P Q 1 (λ q b. stay.trees 1 q IsRoot.of_entries b) k 1 p Below.root w;
    named = named_stays;
    roots = roots_stay;
    toward_item = λ root i p is w. toward_item_kept P Q root (λ q b. stay.trees root q is b) i root p Below.root w;
    pending = pending_stays;
    main = λ k i. (stay.main k i).0;
    all_main = all_main_stays;
    high = λ k p h way is. high_kept P Q 1 (λ q b. stay.trees 1 q IsRoot.of_entries b) h p
        (toward_below P 1 k 1 p Below.root way) is;
    high_post = λ root i p h top way is. high_post_kept P Q root (λ q b. stay.trees root q top b) h p
        (toward_item_below P root i root p Below.root way) is;
    same = λ k p way. stay.trees 1 p IsRoot.of_entries (toward_below P 1 k 1 p Below.root way);
    same_post = λ root i p top way. stay.trees root p top (toward_item_below P root i root p Below.root way);
  }

pub found_holds : FoundHolds
found_holds R later R' P Q on some legal legal' shown shown' quiet =
    found_stays R R' P Q legal shown
    ((steady R later R' P Q on some legal legal' shown shown').index_stays quiet)

pub right_keeps_found : RightKeepsFound
right_keeps_found v R a P h shown =
    found_stays v.seen R P a.pages (seen_legal v R a) shown (index_stays v R a P shown h)

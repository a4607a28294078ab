-- Where pages are in a log, and in one that goes on from it.
use Rattle.std.proofs.Common.{◌≡◌, ◌≢◌, ◌⊎◌, ◌<◌, ◌≤◌, ◌++◌, ℕ, suc, List, [], ◌∷◌, length, length-append, refl, sym}
use Rattle.std.proofs.Common.{ap, subst, ◌∙◌, inl, inr, arith}
use Rattle.std.specs.Prelude.{Option}
use Rattle.page_types.specs.Views.{first_of}
use Rattle.page_types.specs.declared.page.Page.{Page}
use Rattle.page_types.specs.declared.page.Head.{Head}
use Rattle.page_types.specs.declared.page.Row.{Row}
use Rattle.page_types.specs.declared.page.Body.TheVariants as body
use Rattle.page_types.specs.declared.page.Gone.TheVariants as gone
use Rattle.page_types.specs.declared.record.Record.{Record}
use Rattle.core_state.specs.Log.{Log, Pages, In, Shows, changed, commits}
use Rattle.core_state.specs.Index.{Line, Below}
use Rattle.core_state.specs.TreeRules.{IsRoot}
use Rattle.core_state.specs.Legal.{Valid, RecordsAreValid, Pin, KeepsEach}
use Rattle.core_state.specs.Steady.{PlacesStay, PinnedPlacesStay}
use Rattle.core_state.specs.Trees.Ext.Ext.{least, greatest}
use Rattle.core_state.specs.Trees.Nodes as nodes
use Rattle.core_state.specs.Trees.TreeNodes.{entry_nodes, post_nodes}
use Rattle.core_state.specs.Inner.Ghosts.{Place, Ghost, entry_place, post_place, entry_ghost, post_ghost}
use Rattle.core_state.specs.Inner.Ghosts.Place.{line, shifted, left, entry, post}
use Rattle.core_state.specs.Inner.Kinds.{Fits}
use Rattle.core_state.specs.Inner.LineSteps.{LineStep}
use Rattle.core_state.proofs.Showing.{shown_one}
use Rattle.core_state.proofs.Histories.{chain_one}
use Rattle.core_state.proofs.PageLists.{in_or_not, in_front}
use Rattle.core_state.proofs.LivePages.{deleted_stays}
use Rattle.core_state.proofs.SteadyPages.{touches, elsewhere}
use Rattle.core_state.proofs.Trees.Orders.{keys, items, ext_top, key_order, nat_order}
use Rattle.core_state.proofs.Trees.Walk.{IsIn}
use Rattle.core_state.proofs.Trees.Steps.{grows_live, step_stays}
use Rattle.core_state.proofs.Law.Invariant.{Inv}
use Rattle.core_state.proofs.Law.Belows.{post_is, place_below, below_place}
use Rattle.core_state.proofs.Law.Bounded.{posts_hold}
use Rattle.core_state.proofs.Law.EntryBounds.{entry_below}
use Rattle.core_state.proofs.Law.TreeFields.{entry_is}
use Rattle.core_state.proofs.Law.Lists.{zero_place}
use Rattle.core_state.proofs.Law.OneStep.{page_0}
use Rattle.core_state.proofs.Law.KindsStand.{entry_stands, heap_stays, heap_of, is_heap}
use Rattle.core_state.proofs.Law.RunningStays.{some_behind}
use Rattle.core_state.proofs.Law.Steps.{StepHolds, After}
use Rattle.core_state.proofs.Law.Runs.{Holds, plain_run, past_run, step_over}

left_not_root : (r h : ℕ) → nodes.TreePlace.left r ≡ nodes.TreePlace.tree r (suc h) → ⊥
left_not_root r h e = cc

-- one record, by the invariant before it
module _ (n L : ℕ) (R : Log) (P Q : Pages) (r : Record) (g : Ghost) (v : Inv n L R P g) (shown : Shows R P)
    (shown' : Shows (r ∷ R) Q) (a : After n L R P Q r g) where
  entry_on : R ≢ [] → (p : ℕ) → Below P 1 p → Below Q 1 p
  entry_on some p below =
      let one = v.starts.page_1 some in
      let k = entry_below L P g v.kinds v.entries v.entries_rooted 1 one.0 p one.1 below in
      let live = grows_live keys least greatest (ext_top key_order) tt (entry_nodes P) (entry_nodes Q) (entry_ghost g)
      v.entries (zero_place g (page_0 n L R P g v shown)).0 (entry_ghost a.ghost) a.case.trees.entries.0 p 1 k.0
      (ap entry_place k.1) in
      entry_stands n L (r ∷ R) Q a.ghost a.inv shown' p live.0.0 (entry_is (a.ghost.place p) 1 live.0.0 live.0.1)

  -- a page of a posting tree stays in it, or is left there
  in_tree : (root p h : ℕ) → g.place p ≡ post root h → IsIn (post_ghost a.ghost) root p
  in_tree root p h at = (step_stays items least greatest (ext_top nat_order) tt (post_nodes P) (post_nodes Q)
      (post_ghost g) v.posts (zero_place g (page_0 n L R P g v shown)).1 (post_ghost a.ghost) a.case.trees.posts.0 p
      root (inl (h, ap post_place at))).0

  root_on : (root : ℕ) → IsRoot P root → IsRoot Q root
  root_on root IsRoot.of_entries = IsRoot.of_entries
  root_on root (IsRoot.of_postings key is) =
      let at = v.named.is_root is.page root is.entry is.on is.names in
      elim (in_tree root root at.0 at.1) [
        | inr gone ↦ let up = a.inv.posts_rooted.lefts root root gone in
            absurd (left_not_root root up.0 (sym gone ∙ up.1))
        | inl live ↦
            let by = a.inv.named.named root live.0 (post_is (a.ghost.place root) root live.0 live.1) in
            IsRoot.of_postings by.1.key
            (record { page = by.0; entry = by.1; on = by.2; key = refl; names = by.3 })
      ]

  -- a page of a tree, or one that was deleted from it since L
  abbrev GoneLeaf : Pages → ℕ → Type 0
  GoneLeaf S p = (high : ℕ) × ((S p).body ≡ body.Deleted (gone.PostLeaf high [])) × (L < (S p).stamp)

  abbrev GoneRows : Pages → ℕ → Type 0
  GoneRows S p = (rows : List Row) × ((S p).body ≡ body.Deleted (gone.Pending rows)) × (L < (S p).stamp)

  post_on : (root p : ℕ) → IsRoot P root → root ≢ 1 → Below P root p → Below Q root p ⊎ GoneLeaf Q p
  post_on root p IsRoot.of_entries off below = absurd (off refl)
  post_on root p (IsRoot.of_postings key is) off below =
      let top = v.named.is_root is.page root is.entry is.on is.names in
      let at = place_below L P g (posts_hold n L R P g v) root top.0 p top.1 below in
      elim (in_tree root p at.0 at.1) [
        | inl live ↦ inl (below_place L Q a.ghost (posts_hold n L (r ∷ R) Q a.ghost a.inv) p root live.0
            (post_is (a.ghost.place p) root live.0 live.1))
        | inr was ↦ inr (left_fits (a.ghost.place p) was (a.inv.kinds p))
      ]
    where
      left_fits : (x : Place) → post_place x ≡ nodes.TreePlace.left root → Fits L x (Q p) → GoneLeaf Q p
      left_fits (left s) e f = f
      left_fits (post s h) e f = absurd (cc)
      left_fits (entry h) e f = absurd (cc)
      left_fits line e f = absurd (cc)
      left_fits shifted e f = absurd (cc)
      left_fits Place.unused e f = absurd (cc)
      left_fits Place.meta e f = absurd (cc)
      left_fits Place.heap e f = absurd (cc)
      left_fits Place.past e f = absurd (cc)
      left_fits (Place.overflow_of i) e f = absurd (cc)
      left_fits (Place.private_of i) e f = absurd (cc)

  line_on : (qs : List ℕ) (p : ℕ) → Line P qs → In p qs → ((rs : List ℕ) × Line Q rs × In p rs) ⊎ GoneRows Q p
  line_on qs p is i = go a.case.line (subst (In p) (chain_one P (first_of (P 0)) qs g.line is v.lined.is_line) i)
    where
      go : LineStep R P Q g a.ghost → In p g.line → ((rs : List ℕ) × Line Q rs × In p rs) ⊎ GoneRows Q p
      go (LineStep.grow chain e f new rows) on =
          inl (a.ghost.line, a.inv.lined.is_line, subst (In p) (sym e) (in_front p g.line chain on))
      go (LineStep.shift q e f at link kept moved rows) on = elim (subst (In p) e on) [
        | inr rest ↦ inl (a.ghost.line, a.inv.lined.is_line, rest)
        | inl same ↦
            let fits : Fits L shifted (Q q) = subst (λ (x : Place). Fits L x (Q q)) at (a.inv.kinds q) in
            inr (subst (GoneRows Q) (sym same) fits)
      ]

module _ (step : StepHolds) where
  before : (S : Log) (r : Record) (v : RecordsAreValid S) (u : Valid S r (commits S) (suc (length S)))
      → Holds (commits S) (length S) S u.before
  before S r v u = plain_run step S v u.before u.shown

  behind : (S : Log) (r : Record) (v : RecordsAreValid S) (u : Valid S r (commits S) (suc (length S)))
      → After (commits S) (length S) S u.before u.after r (before S r v u).0
  behind S r v u = let h = before S r v u in
      step_over step (commits S) (length S) S r (commits S) (suc (length S)) u (omega arith) (inr refl)
      (omega arith) u.before u.after h.0 u.shown u.shown_after h.1

  -- the entry tree and the roots
  entries_behind : (later R : Log) → RecordsAreValid (later ++ R) → R ≢ [] → (P Q : Pages) → Shows R P
      → Shows (later ++ R) Q → (p : ℕ) → Below P 1 p → Below Q 1 p
  entries_behind [] R v some P Q shown shown' p b =
      subst (λ (S : Pages). Below S 1 p) (shown_one R P Q shown shown') b
  entries_behind (r ∷ later) R v some P Q shown shown' p b =
      let S : Log = later ++ R in
      let h = before S r v.0 v.1 in
      subst (λ (T : Pages). Below T 1 p) (shown_one (r ∷ S) v.1.after Q v.1.shown_after shown')
      (entry_on (commits S) (length S) S v.1.before v.1.after r h.0 h.1 v.1.shown v.1.shown_after
      (behind S r v.0 v.1) (some_behind later R some) p
      (entries_behind later R v.0 some P v.1.before shown v.1.shown p b))

  roots_behind : (later R : Log) → RecordsAreValid (later ++ R) → (P Q : Pages) → Shows R P
      → Shows (later ++ R) Q → (root : ℕ) → IsRoot P root → IsRoot Q root
  roots_behind [] R v P Q shown shown' root is =
      subst (λ (S : Pages). IsRoot S root) (shown_one R P Q shown shown') is
  roots_behind (r ∷ later) R v P Q shown shown' root is =
      let S : Log = later ++ R in
      let h = before S r v.0 v.1 in
      subst (λ (T : Pages). IsRoot T root) (shown_one (r ∷ S) v.1.after Q v.1.shown_after shown')
      (root_on (commits S) (length S) S v.1.before v.1.after r h.0 h.1 v.1.shown v.1.shown_after
      (behind S r v.0 v.1) root (roots_behind later R v.0 P v.1.before shown v.1.shown root is))

  heaps_behind : (later R : Log) → RecordsAreValid (later ++ R) → (P Q : Pages) → Shows R P
      → Shows (later ++ R) Q → (p : ℕ) (slots : List (Option Head)) → (P p).body ≡ body.Heap slots
      → (slots' : List (Option Head)) × ((Q p).body ≡ body.Heap slots')
  heaps_behind [] R v P Q shown shown' p slots e =
      (slots, ap (λ (S : Pages). (S p).body) (shown_one R Q P shown' shown) ∙ e)
  heaps_behind (r ∷ later) R v P Q shown shown' p slots e =
      let S : Log = later ++ R in
      let u = v.1 in
      let old = heaps_behind later R v.0 P u.before shown u.shown p slots e in
      let pages = shown_one (r ∷ S) Q u.after shown' u.shown_after in
      elim (in_or_not p (changed r)) [
        | inl on ↦
            let now =
            is_heap (u.after p).body (heap_stays u.before u.after r _ p (heap_of (u.before p).body old.0 old.1)
            (touches S r _ _ u p on).change) in
            (now.0, ap (λ (T : Pages). (T p).body) pages ∙ now.1)
        | inr off ↦ (
          old.0,
          ap (λ (T : Pages). (T p).body) pages ∙ ap (λ (q : Page). q.body) (elsewhere S r _ _ u p off) ∙ old.1,
        )
      ]

  pub places_stay : (later R : Log) → RecordsAreValid (later ++ R) → R ≢ [] → (P Q : Pages) → Shows R P
      → Shows (later ++ R) Q → PlacesStay P Q
  places_stay later R v some P Q shown shown' = record {
    entry_tree = entries_behind later R v some P Q shown shown';
    roots = roots_behind later R v P Q shown shown';
    heap = heaps_behind later R v P Q shown shown';
  }

  -- under a pin that was taken by then
  module _ (pin : Pin) where
    abbrev Leaf : Pages → ℕ → Type 0
    Leaf S p = (high : ℕ) × ((S p).body ≡ body.Deleted (gone.PostLeaf high [])) × (pin.length < (S p).stamp)

    abbrev Rows : Pages → ℕ → Type 0
    Rows S p = (rows : List Row) × ((S p).body ≡ body.Deleted (gone.Pending rows)) × (pin.length < (S p).stamp)

    abbrev OnLine : Pages → ℕ → Type 0
    OnLine S p = (rs : List ℕ) × Line S rs × In p rs

    abbrev Stays : Pages → Pages → Type 0
    Stays P Q = ((root p : ℕ) → IsRoot P root → root ≢ 1 → Below P root p → Below Q root p ⊎ Leaf Q p)
        × ((p : ℕ) → OnLine P p → OnLine Q p ⊎ Rows Q p)

    pinned : (later R : Log) → RecordsAreValid (later ++ R) → KeepsEach pin (later ++ R) → pin.length ≤ length R
        → (P Q : Pages) → Shows R P → Shows (later ++ R) Q → Stays P Q
    pinned [] R v k low P Q shown shown' =
        subst (Stays P) (shown_one R P Q shown shown') (λ root p is off b. inl b, λ p on. inl on)
    pinned (r ∷ later) R v k low P Q shown shown' =
        let S : Log = later ++ R in
        let from : pin.length ≤ length S = (let e = length-append later R in omega (arith, e, low)) in
        let w = k.2 from in
        let u = w.2 in
        let t = past_run step pin S k.0 from u.before u.shown in
        let a = step_over step pin.commits pin.length S r w.0 pin.length u w.1 (inl (omega arith)) from u.before u.after
        t.0 u.shown u.shown_after t.1 in
        let old = pinned later R v.0 k.0 low P u.before shown u.shown in
        let stays = deleted_stays u.before u.after r pin.length in
        subst (Stays P) (shown_one (r ∷ S) u.after Q u.shown_after shown') (
          λ root p is off b. elim (old.0 root p is off b) [
            | inl there ↦ post_on pin.commits pin.length S u.before u.after r t.0 t.1 u.shown u.shown_after a root p
                (roots_behind later R v.0 P u.before shown u.shown root is) off there
            | inr was ↦
                let same = stays p _ (touches S r w.0 pin.length u) (elsewhere S r w.0 pin.length u) was.1 was.2 in
                inr (subst (λ (q : Page). (high : ℕ) × (q.body ≡ body.Deleted (gone.PostLeaf high []))
                × (pin.length < q.stamp)) (sym same) was)
          ],
          λ p on. elim (old.1 p on) [
            | inl there ↦ line_on pin.commits pin.length S u.before u.after r t.0 t.1 u.shown u.shown_after a there.0 p
                there.1 there.2
            | inr was ↦
                let same = stays p _ (touches S r w.0 pin.length u) (elsewhere S r w.0 pin.length u) was.1 was.2 in
                inr (subst (λ (q : Page). (rows : List Row) × (q.body ≡ body.Deleted (gone.Pending rows))
                × (pin.length < q.stamp)) (sym same) was)
          ],
        )

    pub pinned_stay : (later R : Log) → RecordsAreValid (later ++ R) → KeepsEach pin (later ++ R)
        → pin.length ≤ length R → (P Q : Pages) → Shows R P → Shows (later ++ R) Q → PinnedPlacesStay P Q
    pinned_stay later R v k low P Q shown shown' =
        let s = pinned later R v k low P Q shown shown' in
        record {
          posting_tree = λ root p is off b. elim (s.0 root p is off b) [
            | inl there ↦ inl there
            | inr gone ↦ inr (gone.0, gone.1)
          ];
          line = λ p on. elim (s.1 p on) [ inl there ↦ inl there | inr gone ↦ inr (gone.0, gone.1) ];
        }

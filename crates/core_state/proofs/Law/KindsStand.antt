-- Which kind is where in a legal log's pages.
use Rattle.std.proofs.Common.{◌≡◌, ◌≢◌, ℕ, zero, suc, List, [], ◌∷◌, length, refl, sym, ap, subst, ◌∙◌, inl, inr}
use Rattle.std.specs.Prelude.{Option, Some, None, map}
use Rattle.page_types.specs.Views.{slots_in, slot_at}
use Rattle.page_types.specs.declared.page.Page.{Page}
use Rattle.page_types.specs.declared.page.Head.{Head}
use Rattle.page_types.specs.declared.page.EntryChild.{EntryChild}
use Rattle.page_types.specs.declared.page.Body.{Body}
use Rattle.page_types.specs.declared.page.Body.TheVariants as body
use Rattle.page_types.specs.declared.record.Record.{Record}
use Rattle.core_state.specs.Log.{Log, Pages, In, Shows, changed, commits}
use Rattle.core_state.specs.Documents.{Doc, page_of, slot_of, placed, head_of}
use Rattle.core_state.specs.Index.{Below, children_in}
use Rattle.core_state.specs.TreeRules.{IsRoot}
use Rattle.core_state.specs.Legal.{Valid, RecordsAreValid}
use Rattle.core_state.specs.Bullets as told
use Rattle.core_state.specs.Bullets.{StandsOnChain, StandsIn}
use Rattle.core_state.specs.PagesTold.{IsOfPlace, IsUsed, KindsStand}
use Rattle.core_state.specs.Trees.Ext.Ext.{greatest}
use Rattle.core_state.specs.Trees.TreeNodes.{entry_child, entry_body, entry_nodes}
use Rattle.core_state.specs.Inner.PageKinds.{IsHeap, IsOverflow, IsPending, IsMeta, IsTree, IsChanged}
use Rattle.core_state.specs.Inner.Ghosts.{Place, Ghost, entry_place, entry_ghost}
use Rattle.core_state.specs.Inner.Ghosts.Place.{unused, meta, heap, line, past, shifted, left, entry, post, overflow_of}
use Rattle.core_state.specs.Inner.Ghosts.Place.{private_of}
use Rattle.core_state.specs.Inner.Kinds.{Fits}
use Rattle.core_state.specs.Inner.ItemChains.{Chains}
use Rattle.core_state.proofs.PageLists.{in_or_not}
use Rattle.core_state.proofs.FateSteps.{placed_back}
use Rattle.core_state.proofs.HeadsFollow.{places_doc}
use Rattle.core_state.proofs.ChainFrames.{not_new}
use Rattle.core_state.proofs.SteadyPages.{touches, elsewhere, is_after}
use Rattle.core_state.proofs.Trees.Orders.{keys}
use Rattle.core_state.proofs.Trees.Below as trees
use Rattle.core_state.proofs.Trees.Below.{children, child_pages, below_of_place}
use Rattle.core_state.proofs.Law.Invariant.{Inv}
use Rattle.core_state.proofs.Law.Belows.{root_of, below_place}
use Rattle.core_state.proofs.Law.Bounded.{posts_hold, some_record}
use Rattle.core_state.proofs.Law.OnePlaces.{place_told, same_some, stands}

-- a page of a ghost's place has the kind of the place that is said
of_place : (L : ℕ) (x : Place) (p : Page) (a : told.PagePlace) → place_told x ≡ Some a → Fits L x p → IsOfPlace a p.body
of_place L meta p a e f = subst (λ (y : told.PagePlace). IsOfPlace y p.body) (same_some _ a e) f
of_place L heap p a e f = subst (λ (y : told.PagePlace). IsOfPlace y p.body) (same_some _ a e) f
of_place L line p a e f = subst (λ (y : told.PagePlace). IsOfPlace y p.body) (same_some _ a e) f
of_place L (entry zero) p a e f = subst (λ (y : told.PagePlace). IsOfPlace y p.body) (same_some _ a e) (inl f)
of_place L (entry (suc h)) p a e f = subst (λ (y : told.PagePlace). IsOfPlace y p.body) (same_some _ a e) (inr f)
of_place L (post r zero) p a e f = subst (λ (y : told.PagePlace). IsOfPlace y p.body) (same_some _ a e) (inl f)
of_place L (post r (suc h)) p a e f = subst (λ (y : told.PagePlace). IsOfPlace y p.body) (same_some _ a e) (inr f)
of_place L (overflow_of i) p a e f = subst (λ (y : told.PagePlace). IsOfPlace y p.body) (same_some _ a e) f
of_place L (private_of i) p a e f = subst (λ (y : told.PagePlace). IsOfPlace y p.body) (same_some _ a e) f
of_place L unused p a e f = absurd (cc)
of_place L past p a e f = absurd (cc)
of_place L shifted p a e f = absurd (cc)
of_place L (left r) p a e f = absurd (cc)

-- the pages of the entry tree are below its root
pages_same : (cs : List EntryChild) → child_pages (map entry_child cs) ≡ map (λ (c : EntryChild). c.page) cs
pages_same [] = refl
pages_same (c ∷ cs) = ap (λ (l : List ℕ). c.page ∷ l) (pages_same cs)

child_of : (q right : ℕ) (b : Body) → In q (children (entry_body right b)) → In q (children_in b)
child_of q right (body.EntryInner cs) i = subst (In q) (pages_same cs) i
child_of q right body.Free i = absurd i
child_of q right (body.Meta first last count) i = absurd i
child_of q right (body.Heap slots) i = absurd i
child_of q right (body.Overflow bytes) i = absurd i
child_of q right (body.Pending rows) i = absurd i
child_of q right (body.EntryLeaf high es) i = absurd i
child_of q right (body.PostInner cs) i = absurd i
child_of q right (body.PostLeaf high is) i = absurd i
child_of q right (body.Deleted gone) i = absurd i

from_nodes : (P : Pages) (r q : ℕ) → trees.Below (entry_nodes P) r q → Below P r q
from_nodes P r q trees.Below.root = Below.root
from_nodes P r q (trees.Below.child {p = p} b i) = Below.child (from_nodes P r p b)
    (child_of q (P p).right (P p).body i)

entry_not_post : (h r k : ℕ) → entry h ≡ post r k → ⊥
entry_not_post h r k e = cc

module _ (n L : ℕ) (R : Log) (P : Pages) (g : Ghost) (v : Inv n L R P g) (shown : Shows R P) where
  kinds : R ≢ [] → (p : ℕ) (a : told.PagePlace) → StandsIn P p a → IsOfPlace a (P p).body
  kinds some p a s = of_place L (g.place p) (P p) a (stands n L R P g v some p a s) (v.kinds p)

  pub entry_stands : (p h : ℕ) → g.place p ≡ entry h → Below P 1 p
  entry_stands p h at =
      let root = v.entries_rooted.trees p 1 h (ap entry_place at) in
      from_nodes P 1 p (below_of_place keys greatest (entry_nodes P) (entry_ghost g) v.entries 1 root.0
      (v.entries_rooted.roots 1 root.0 root.1) p h (ap entry_place at))

  post_stands : R ≢ [] → (p r h : ℕ) → g.place p ≡ post r h → StandsIn P p (told.PagePlace.posting_tree r)
  post_stands some p r h at =
      let top = root_of L P g (posts_hold n L R P g v) p r h at in
      let by = v.named.named r top.0 top.1 in
      let one = v.starts.page_1 some in (
        IsRoot.of_postings by.1.key
            (record { page = by.0; entry = by.1; on = by.2; key = refl; names = by.3 }),
        λ e. entry_not_post one.0 r top.0 (sym one.1 ∙ ap g.place (sym e) ∙ top.1),
        below_place L P g (posts_hold n L R P g v) p r h at,
      )

  chain_stands : (from : Head → ℕ) (x : ℕ → Place) → Chains P from (λ i q. g.place q ≡ x i) → (p i : ℕ)
      → g.place p ≡ x i → StandsOnChain from P p i
  chain_stands from x C p i at = go (head_of P i) refl
    where
      go : (o : Option Head) → head_of P i ≡ o → StandsOnChain from P p i
      go None e = absurd (C.none i p e at)
      go (Some h) e =
          let c = C.some i h e in (
            record { item = i; serial = h.serial },
            h,
            c.pages,
            refl,
            record { at = e; serial = refl },
            c.is_chain,
            (c.on p).1 at,
          )

  -- a page in use has a place
  place_of : R ≢ [] → (p : ℕ) (x : Place) → g.place p ≡ x → Fits L x (P p) → IsUsed (P p).body
      → (a : told.PagePlace) × StandsIn P p a
  place_of some p unused at f used = absurd (used.not_free (ap (λ (q : Page). q.body) f))
  place_of some p meta at f used = (told.PagePlace.meta, v.starts.no_other p at)
  place_of some p heap at f used = (told.PagePlace.heap, f)
  place_of some p line at f used = (told.PagePlace.line, (g.line, v.lined.is_line, (v.lined.on p).1 at))
  place_of some p past at f used = absurd (used.not_deleted f.0 f.1)
  place_of some p shifted at f used = absurd (used.not_deleted _ f.1)
  place_of some p (left r) at f used = absurd (used.not_deleted _ f.1)
  place_of some p (entry h) at f used = (told.PagePlace.entry_tree, entry_stands p h at)
  place_of some p (post r h) at f used = (told.PagePlace.posting_tree r, post_stands some p r h at)
  place_of some p (overflow_of i) at f used =
      (told.PagePlace.overflow_of i, chain_stands (λ h. h.overflow) overflow_of v.chained.overflow p i at)
  place_of some p (private_of i) at f used =
      (told.PagePlace.private_of i, chain_stands (λ h. h.private) private_of v.chained.private p i at)

  places : (p : ℕ) → IsUsed (P p).body → (a : told.PagePlace) × StandsIn P p a
  places p used = place_of (some_record R P p (P p).body shown refl used.not_free) p (g.place p) refl (v.kinds p) used

-- a heap page stays one
heap_only : (b : Body) → IsHeap b → (IsOverflow b → ⊥) × (IsTree b → ⊥) × (IsPending b → ⊥) × (IsMeta b → ⊥)
heap_only (body.Heap slots) is = (λ f. f, λ f. f, λ f. f, λ f. f)
heap_only _ is = absurd is

pub heap_stays : (P Q : Pages) (r : Record) (since p : ℕ) → IsHeap (P p).body → IsChanged P Q r since p
    → IsHeap (Q p).body
heap_stays P Q r since p is (IsChanged.made k was after) =
    absurd (subst IsHeap (ap (λ (x : Page). x.body) was) is)
heap_stays P Q r since p is (IsChanged.heads was after at) = after
heap_stays P Q r since p is (IsChanged.chained new after) =
    absurd (not_new IsHeap P since p (λ f. f) (λ g f. f) is new)
heap_stays P Q r since p is (IsChanged.grown new works after) =
    absurd (not_new IsHeap P since p (λ f. f) (λ g f. f) is new)
heap_stays P Q r since p is (IsChanged.worked was works after) = absurd ((heap_only (P p).body is).1 was)
heap_stays P Q r since p is (IsChanged.meta was lists after) = absurd ((heap_only (P p).body is).3 was)
heap_stays P Q r since p is (IsChanged.listed was on lists after) = absurd ((heap_only (P p).body is).2 was)
heap_stays P Q r since p is (IsChanged.dropped first after) = absurd (elim first.first [
  | inl o ↦ (heap_only (P p).body is).0 o.0
  | inr o ↦ (heap_only (P p).body is).2 o.0
])

some_heap : (b : Body) (k : ℕ) (h : Head) → slot_at (slots_in b) k ≡ Some h → IsHeap b
some_heap (body.Heap slots) k h f = tt
some_heap body.Free k h f = absurd (cc)
some_heap (body.Meta first last pages) k h f = absurd (cc)
some_heap (body.Overflow bytes) k h f = absurd (cc)
some_heap (body.Pending rows) k h f = absurd (cc)
some_heap (body.EntryLeaf high es) k h f = absurd (cc)
some_heap (body.EntryInner cs) k h f = absurd (cc)
some_heap (body.PostLeaf high is) k h f = absurd (cc)
some_heap (body.PostInner cs) k h f = absurd (cc)
some_heap (body.Deleted gone) k h f = absurd (cc)

pub heap_of : (b : Body) (slots : List (Option Head)) → b ≡ body.Heap slots → IsHeap b
heap_of b slots e = subst IsHeap (sym e) tt

pub is_heap : (b : Body) → IsHeap b → (slots : List (Option Head)) × (b ≡ body.Heap slots)
is_heap (body.Heap slots) is = (slots, refl)
is_heap _ is = absurd is

-- the page of each head that was placed is one
heap_page : (R : Log) (P : Pages) → RecordsAreValid R → Shows R P → (x : ℕ) (d : Doc) → In d (placed R x)
    → IsHeap (P (page_of d.item)).body
heap_page [] P v shown x d i = absurd i
heap_page (r ∷ R) P v shown x d i =
    let u : Valid R r (commits R) (suc (length R)) = v.1 in
    subst (λ (q : Page). IsHeap q.body) (sym (is_after R r _ _ u P shown (page_of d.item)))
    (elim (placed_back r R x d i) [
      | inr new ↦
          let m = places_doc R u.before u.after r _ _ u.rule d.item d.serial new.0 in
          some_heap (u.after (page_of d.item)).body (slot_of d.item) m.head m.has.at
      | inl old ↦
          let was = heap_page R u.before v.0 u.shown x d old in
          elim (in_or_not (page_of d.item) (changed r)) [
            | inl on ↦ heap_stays u.before u.after r _ (page_of d.item) was
                (touches R r _ _ u (page_of d.item) on).change
            | inr off ↦ subst (λ (q : Page). IsHeap q.body) (sym (elsewhere R r _ _ u (page_of d.item) off)) was
          ]
    ])

pub kinds_stand : (n L : ℕ) (R : Log) (P : Pages) (g : Ghost) → Inv n L R P g → RecordsAreValid R → Shows R P
    → KindsStand R P
kinds_stand n L R P g v valid shown = record {
  kinds = kinds n L R P g v shown;
  heaps = λ x d i. is_heap (P (page_of d.item)).body (heap_page R P valid shown x d i);
  places = places n L R P g v shown;
}

-- The leaves of a tree in order: one is before each but the first, and each has what is between its bounds.
use Rattle.std.proofs.Common.{◌≡◌, ◌≢◌, ◌⊎◌, ◌+◌, ℕ, zero, suc, List, [], ◌∷◌, ◌++◌, map, refl, sym, ap, subst, ◌∙◌}
use Rattle.std.proofs.Common.{inl, inr, arith}
use Rattle.core_state.specs.Log.{Pages, In}
use Rattle.core_state.specs.PagesTold.{LeavesInOrder}
use Rattle.core_state.specs.Trees.Nodes.{Order, Child, Node, TreeGhost, AtMost, Kids, Sane}
use Rattle.core_state.specs.Trees.Nodes.TreePlace.{none, tree}
use Rattle.core_state.proofs.Trees.Order.{tree_not_none, at_most_less}
use Rattle.core_state.proofs.Trees.Below.{Rooted, child_pages, children}
use Rattle.core_state.proofs.Trees.Find.{right_in, one_cover, one_low, one_high, right_here}
use Rattle.core_state.proofs.Law.Rooted.{AreRooted}

-- the last of some children ends where they end
pub kids_last : {A E : Type 0} (o : Order E) (top : E) (g : TreeGhost E) (f : A → Child E) (r h : ℕ) (lo hi : E) (a : A)
    (as' : List A) → Kids o top g r h lo (map f (a ∷ as')) hi
    → (front : List A) × (last : A) × (a ∷ as' ≡ front ++ last ∷ []) × ((f last).bound ≡ hi)
    × (g.place (f last).page ≡ tree r h) × (g.high (f last).page ≡ hi)
kids_last o top g f r h lo hi a [] k = ([], a, refl, k.3, k.0, k.2 ∙ k.3)
kids_last o top g f r h lo hi a (b ∷ as') k =
    let c = kids_last o top g f r h (f a).bound hi b as' k.3 in
    (a ∷ c.0, c.1, ap (λ (l : List _). a ∷ l) c.2, c.3, c.4, c.5)

map_same : {A : Type 0} (as' : List A) → map (λ (a : A). a) as' ≡ as'
map_same [] = refl
map_same (a ∷ as') = ap (λ (l : List _). a ∷ l) (map_same as')

module _ {E : Type 0} (o : Order E) (bottom top : E) (lowest : (x : E) → o.less x bottom → ⊥)
    (greatest : (x : E) → o.less top x → ⊥) (N : ℕ → Node E) (g : TreeGhost E) (S : Sane o top N g)
    (A : AreRooted bottom top N g) (r t : ℕ) (root : g.place r ≡ tree r t) where
  T : Rooted N g r t
  T = A.roots r t root

  -- the last page of a level below a page
  kids_end : (h : ℕ) (lo hi : E) (cs : List (Child E)) → o.less lo hi → Kids o top g r h lo cs hi
      → (p : ℕ) × (g.place p ≡ tree r h) × (g.high p ≡ hi)
  kids_end h lo hi [] l k = absurd (o.irrefl hi (subst (λ (z : E). o.less z hi) k l))
  kids_end h lo hi (c ∷ cs) l k =
      let e = kids_last o top g (λ (d : Child E). d) r h lo hi c cs
      (subst (λ (l : List (Child E)). Kids o top g r h lo l hi) (sym (map_same (c ∷ cs))) k) in
      (e.1.page, e.4, e.5)

  kids_start : (h : ℕ) (lo hi : E) (cs : List (Child E)) → o.less lo hi → Kids o top g r h lo cs hi
      → (p : ℕ) × (g.place p ≡ tree r h) × (g.low p ≡ lo)
  kids_start h lo hi [] l k = absurd (o.irrefl hi (subst (λ (z : E). o.less z hi) k l))
  kids_start h lo hi (c ∷ cs) l k = (c.page, k.0, k.1)

  -- a child begins where they begin, or where the one before it ends
  kid_before : (h : ℕ) (lo hi : E) (cs : List (Child E)) → Kids o top g r h lo cs hi → (q : ℕ) → In q (child_pages cs)
      → (g.low q ≡ lo) ⊎ ((p : ℕ) × (g.place p ≡ tree r h) × (g.high p ≡ g.low q))
  kid_before h lo hi [] k q i = absurd i
  kid_before h lo hi (c ∷ cs) k q (inl e) = inl (ap g.low e ∙ k.1)
  kid_before h lo hi (c ∷ cs) k q (inr i) = elim (kid_before h c.bound hi cs k.3 q i) [
    | inl e ↦ inr (c.page, k.0, k.2 ∙ sym e)
    | inr p ↦ inr p
  ]

  -- each page of a level begins the level, or where another ends
  page_before : (d q h : ℕ) → h + d ≡ t → g.place q ≡ tree r h
      → (g.low q ≡ bottom) ⊎ ((p : ℕ) × (g.place p ≡ tree r h) × (g.high p ≡ g.low q))
  page_before zero q h e at = elim (T.parent q h at) [
    | inl z ↦ inl (ap g.low z ∙ A.low r t root)
    | inr y ↦ let bound = T.highest y.0 (suc h) y.1 in absurd (omega (arith, e, bound))
  ]
  page_before (suc d) q h e at = elim (T.parent q h at) [
    | inl z ↦ inl (ap g.low z ∙ A.low r t root)
    | inr y ↦
        let ok = S.inners y.0 r h y.1 in
        elim (kid_before h (g.low y.0) (g.high y.0) ok.kids ok.kids_ok q
        (subst (λ (z : Node E). In q (children z)) ok.node y.2)) [
          | inr p ↦ inr p
          | inl low ↦ elim (page_before d y.0 (suc h) (omega (arith, e)) y.1) [
            | inl first ↦ inl (low ∙ first)
            | inr p ↦
                let up = S.inners p.0 r h p.1 in
                let k = kids_end h (g.low p.0) (g.high p.0) up.kids (S.span p.0 r (suc h) p.1) up.kids_ok in
                inr (k.0, k.1, k.2 ∙ p.2 ∙ sym low)
          ]
        ]
  ]

  -- each level begins with a page
  level_first : (d h : ℕ) → h + d ≡ t → (p : ℕ) × (g.place p ≡ tree r h) × (g.low p ≡ bottom)
  level_first zero h e =
      let same : t ≡ h = omega (arith, e) in
      (r, subst (λ (z : ℕ). g.place r ≡ tree r z) same root, A.low r t root)
  level_first (suc d) h e =
      let up = level_first d (suc h) (omega (arith, e)) in
      let ok = S.inners up.0 r h up.1 in
      let k = kids_start h (g.low up.0) (g.high up.0) ok.kids (S.span up.0 r (suc h) up.1) ok.kids_ok in
      (k.0, k.1, k.2 ∙ up.2)

  module _ {K : Type 0} (P : Pages) (IsLeaf : ℕ → Type 0) (On Up : ℕ → K → Type 0) (at : K → E) (zero_page : g.place 0
      ≡ none) (leaf_at : (p : ℕ) → IsLeaf p → g.place p ≡ tree r 0) (at_leaf : (p : ℕ) → g.place p ≡ tree r 0
      → IsLeaf p) (right_is : (p : ℕ) → IsLeaf p → right_in (N p) ≡ (P p).right)
      (within : (p : ℕ) (k : K) → IsLeaf p → On p k → o.less (g.low p) (at k) × AtMost o top (at k) (g.high p))
      (up_to : (p : ℕ) (k : K) → IsLeaf p → Up p k → AtMost o top (at k) (g.high p))
      (to_up : (p : ℕ) (k : K) → IsLeaf p → AtMost o top (at k) (g.high p) → Up p k)
      (above : (k : K) → o.less bottom (at k)) where
    next : (p : ℕ) → IsLeaf p → (P p).right ≢ 0
        → (g.place (P p).right ≡ tree r 0) × (g.low (P p).right ≡ g.high p)
    next p l some = elim (right_here o top N g S p r 0 (leaf_at p l)) [
      | inl z ↦ absurd (some (sym (right_is p l) ∙ z.0))
      | inr z ↦ (
        subst (λ (q : ℕ). g.place q ≡ tree r 0) (right_is p l) z.1,
        subst (λ (q : ℕ). g.low q ≡ g.high p) (right_is p l) z.2,
      )
    ]

    one : (p : ℕ) × (g.place p ≡ tree r 0) × (g.low p ≡ bottom)
    one = level_first t 0 (omega arith)

    not_zero : (p : ℕ) → g.place p ≡ tree r 0 → p ≢ 0
    not_zero p e z = tree_not_none r 0 (sym e ∙ ap g.place z ∙ zero_page)

    none_before : (p : ℕ) → IsLeaf p → (P p).right ≢ one.0
    none_before p l e =
        let n = next p l (λ z. not_zero one.0 one.1 (sym e ∙ z)) in
        lowest (g.low p) (subst (λ (z : E). o.less (g.low p) z) (sym n.1 ∙ ap g.low e ∙ one.2)
        (S.span p r 0 (leaf_at p l)))

    before : (q : ℕ) → IsLeaf q → (q ≡ one.0) ⊎ ((p : ℕ) × IsLeaf p × ((P p).right ≡ q))
    before q l = elim (page_before t q 0 (omega arith) (leaf_at q l)) [
      | inl first ↦ inl (one_low o top N g S q one.0 r 0 (leaf_at q l) one.1 (first ∙ sym one.2))
      | inr p ↦
          let lp = at_leaf p.0 p.1 in
          elim (right_here o top N g S p.0 r 0 p.1) [
            | inl z ↦ absurd (greatest (g.high q) (subst (λ (x : E). o.less x (g.high q)) (sym p.2 ∙ z.1)
                (S.span q r 0 (leaf_at q l))))
            | inr z ↦
                let same = one_low o top N g S (right_in (N p.0)) q r 0 z.1 (leaf_at q l) (z.2 ∙ p.2) in
                inr (p.0, lp, sym (right_is p.0 lp) ∙ same)
          ]
    ]

    one_before : (p q : ℕ) → IsLeaf p → IsLeaf q → (P p).right ≢ 0 → (P p).right ≡ (P q).right → p ≡ q
    one_before p q lp lq some same =
        let a = next p lp some in
        let b = next q lq (λ z. some (same ∙ z)) in
        one_high o top N g S p q r 0 (leaf_at p lp) (leaf_at q lq) (sym a.1 ∙ ap g.low same ∙ b.1)

    on_first : (x : ℕ) (k : K) → IsLeaf x → On x k → (x ≡ one.0) → Up one.0 k
    on_first x k l on e = subst (λ (z : ℕ). Up z k) e (to_up x k l (within x k l on).1)

    first_on : (x : ℕ) (k : K) → IsLeaf x → On x k → Up one.0 k → x ≡ one.0
    first_on x k l on up =
        let w = within x k l on in
        one_cover o top N g S x one.0 r 0 (at k) (leaf_at x l) one.1 w.0 w.1
        (subst (λ (z : E). o.less z (at k)) (sym one.2) (above k)) (up_to one.0 k (at_leaf one.0 one.1) up)

    on_next : (p x : ℕ) (k : K) → IsLeaf p → (P p).right ≢ 0 → IsLeaf x → On x k → x ≡ (P p).right
        → (Up p k → ⊥) × Up (P p).right k
    on_next p x k lp some l on e =
        let w = within x k l on in
        let n = next p lp some in
        let low : o.less (g.high p) (at k) = subst (λ (z : E). o.less z (at k)) (ap g.low e ∙ n.1) w.0 in (
          λ up. o.irrefl (at k) (at_most_less o top (at k) (g.high p) (at k) (up_to p k lp up) low),
          subst (λ (z : ℕ). Up z k) e (to_up x k l w.1),
        )

    next_on : (p x : ℕ) (k : K) → IsLeaf p → (P p).right ≢ 0 → IsLeaf x → On x k → (Up p k → ⊥)
        → Up (P p).right k → x ≡ (P p).right
    next_on p x k lp some l on off up =
        let w = within x k l on in
        let n = next p lp some in
        let low : o.less (g.high p) (at k) = elim (o.total (at k) (g.high p)) [
          | inl m ↦ absurd (off (to_up p k lp (inl m)))
          | inr (inl e) ↦ absurd (off (to_up p k lp (inr e)))
          | inr (inr m) ↦ m
        ] in
        one_cover o top N g S x (P p).right r 0 (at k) (leaf_at x l) n.0 w.0 w.1
        (subst (λ (z : E). o.less z (at k)) (sym n.1) low) (up_to (P p).right k (at_leaf (P p).right n.0) up)

    pub leaves_in_order : LeavesInOrder P IsLeaf On Up
    leaves_in_order = record {
      links = λ p l some. at_leaf (P p).right (next p l some).0;
      first = one.0;
      is_first = at_leaf one.0 one.1;
      none_before = none_before;
      before = before;
      one_before = one_before;
      on_first = λ x k l on. (on_first x k l on, first_on x k l on);
      on_next = λ p x k lp some l on. (
        on_next p x k lp some l on,
        λ u. next_on p x k lp some l on u.0 u.1,
      );
    }

-- How many pages a walk has that comes from the root of a tree down to its first leaf, and on along right links.
use Rattle.std.proofs.Common.{◌≡◌, ◌≢◌, ◌⊎◌, ◌+◌, ◌<◌, ◌≤◌, ℕ, zero, suc, List, [], ◌∷◌, length, refl, sym, subst}
use Rattle.std.proofs.Common.{◌∙◌}
use Rattle.std.proofs.Common.{inl, inr, arith}
use Rattle.core_state.specs.Log.{Pages, In}
use Rattle.core_state.specs.PagesTold.{LeavesInOrder}
use Rattle.core_state.proofs.ChainLengths.{few_below}
use Rattle.core_state.proofs.Trees.Behind.{Once}
use Rattle.core_vacuum.specs.Leaves.{IsFirst}
use Rattle.gin_vacuum.specs.Sweeping.{LeadsOver, AreLeftBelow}

zero_or : (n : ℕ) → (n ≡ 0) ⊎ (n ≢ 0)
zero_or zero = inl refl
zero_or (suc n) = inr (λ e. absurd (omega (arith, e)))

module _ {K : Type 0} (P : Pages) (IsLeaf : ℕ → Type 0) (On Up : ℕ → K → Type 0)
    (o : LeavesInOrder P IsLeaf On Up) (not_zero : IsLeaf 0 → ⊥) where
  -- the leaves on the way from the first to this page, the last one first
  abbrev IsTrail : ℕ → List ℕ → ℕ → Type 0
  IsTrail start [] p = p ≡ start
  IsTrail start (q ∷ qs) p = IsLeaf q × ((P q).right ≡ p) × IsTrail start qs q

  came : (start : ℕ) (qs : List ℕ) (p : ℕ) → IsTrail start qs p → (x : ℕ) → (x ≡ p) ⊎ In x qs
      → (x ≡ start) ⊎ ((y : ℕ) × In y qs × IsLeaf y × ((P y).right ≡ x))
  came start [] p t x (inl e) = inl (e ∙ t)
  came start [] p t x (inr i) = absurd i
  came start (q ∷ qs) p t x (inl e) = inr (q, inl refl, t.0, t.1 ∙ sym e)
  came start (q ∷ qs) p t x (inr i) = elim (came start qs q t.2 x i) [
    | inl s ↦ inl s
    | inr y ↦ inr (y.0, inr y.1, y.2, y.3)
  ]

  no_back : (start : ℕ) → IsFirst P IsLeaf start → (qs : List ℕ) (p : ℕ) → IsTrail start qs p → IsLeaf p
      → In p qs → ⊥
  no_back start first [] p t l i = i
  no_back start first (q ∷ qs) p t l i = elim (came start qs q t.2 p i) [
    | inl e ↦ first q t.0 (t.1 ∙ e)
    | inr y ↦
        let some : (P q).right ≢ 0 = λ z. not_zero (subst IsLeaf (sym t.1 ∙ z) l) in
        let same : q ≡ y.0 = o.one_before q y.0 t.0 y.2 some (t.1 ∙ sym y.3) in
        no_back start first qs q t.2 t.0 (subst (λ (z : ℕ). In z qs) (sym same) y.1)
  ]

  once : (start : ℕ) → IsFirst P IsLeaf start → (qs : List ℕ) (p : ℕ) → IsTrail start qs p → IsLeaf p
      → Once (p ∷ qs)
  once start first [] p t l = (λ i. i, tt)
  once start first (q ∷ qs) p t l = (no_back start first (q ∷ qs) p t l, once start first qs q t.2 t.0)

  all_leaves : (start : ℕ) (qs : List ℕ) (p : ℕ) → IsTrail start qs p → IsLeaf p → (x : ℕ) → In x (p ∷ qs)
      → IsLeaf x
  all_leaves start [] p t l x (inl e) = subst IsLeaf (sym e) l
  all_leaves start [] p t l x (inr none) = absurd none
  all_leaves start (q ∷ qs) p t l x (inl e) = subst IsLeaf (sym e) l
  all_leaves start (q ∷ qs) p t l x (inr i) = all_leaves start qs q t.2 t.0 x i

  module _ (h n : ℕ) (few : (xs : List ℕ) → Once xs → ((x : ℕ) → In x xs → IsLeaf x) → h + length xs < n)
      (start : ℕ) (first : IsFirst P IsLeaf start) where
    run : (left : ℕ) (qs : List ℕ) (p : ℕ) → n ≤ length qs + left → IsTrail start qs p → IsLeaf p
        → (m : ℕ) × LeadsOver P IsLeaf p m × (h + (length qs + m) < n)
    run zero qs p fuel t l =
        let size = few (p ∷ qs) (once start first qs p t l) (all_leaves start qs p t l) in
        absurd (omega (arith, size, fuel))
    run (suc left) qs p fuel t l = elim (zero_or (P p).right) [
      | inl end ↦
          let size = few (p ∷ qs) (once start first qs p t l) (all_leaves start qs p t l) in
          (1, LeadsOver.next l (subst (λ (q : ℕ). LeadsOver P IsLeaf q 0) (sym end) LeadsOver.end), omega (arith, size))
      | inr on ↦
          let r = run left (p ∷ qs) (P p).right (omega (arith, fuel)) (l, refl, t) (o.links p l on) in
          (suc r.0, LeadsOver.next l r.1, omega (arith, r.2))
    ]

-- where pages have one height each, and one that isn't 0 has another of one less
module _ (At : ℕ → ℕ → Type 0) (one : (i j q : ℕ) → At i q → At j q → i ≡ j)
    (child : (h q : ℕ) → At (suc h) q → (c : ℕ) × At h c) where
  -- with pages of all heights from 1 to h, no page twice
  with_way : (h q : ℕ) → At h q → (xs : List ℕ) → Once xs → ((x j : ℕ) → In x xs → At (suc j) x → ⊥)
      → (ys : List ℕ) × Once ys × (length ys ≡ h + length xs)
      × ((y : ℕ) → In y ys → In y xs ⊎ ((j : ℕ) × (j < h) × At (suc j) y))
  with_way zero q at xs o apart = (xs, o, omega arith, λ y i. inl i)
  with_way (suc h) q at xs o apart =
      let c = child h q at in
      let r = with_way h c.0 c.1 xs o apart in (
        q ∷ r.0,
        (
          λ i. elim (r.3 q i) [
            | inl j ↦ apart q h j at
            | inr w ↦ let e : suc h ≡ suc w.0 = one (suc h) (suc w.0) q at w.2 in omega (arith, e, w.1)
          ],
          r.1,
        ),
        omega (arith, r.2),
        λ y i. elim i [
          | inl e ↦ inr (h, omega arith, subst (At (suc h)) (sym e) at)
          | inr j ↦ elim (r.3 y j) [
            | inl k ↦ inl k
            | inr w ↦ inr (w.0, omega (arith, w.1), w.2)
          ]
        ],
      )

  module _ {K : Type 0} (P : Pages) (IsLeaf : ℕ → Type 0) (On Up : ℕ → K → Type 0)
      (o : LeavesInOrder P IsLeaf On Up) (not_zero : IsLeaf 0 → ⊥) (n : ℕ) (zero_below : 0 < n)
      (leaf_below : (x : ℕ) → IsLeaf x → x < n) (inner_below : (x j : ℕ) → At (suc j) x → x < n)
      (not_both : (x j : ℕ) → IsLeaf x → At (suc j) x → ⊥) (zero_not : (j : ℕ) → At (suc j) 0 → ⊥) where
    few_all : (h root : ℕ) → At h root → (xs : List ℕ) → Once xs → ((x : ℕ) → In x xs → IsLeaf x)
        → h + length xs < n
    few_all h root at xs once_xs leaves =
        let w = with_way h root at (0 ∷ xs) ((λ i. not_zero (leaves 0 i)), once_xs) (λ x j i high. elim i [
          | inl e ↦ zero_not j (subst (At (suc j)) e high)
          | inr k ↦ not_both x j (leaves x k) high
        ]) in
        let l = few_below n w.0 w.1 (λ y i. elim (w.3 y i) [
          | inl k ↦ elim k [
            | inl e ↦ subst (λ (z : ℕ). z < n) (sym e) zero_below
            | inr leaf ↦ leaf_below y (leaves y leaf)
          ]
          | inr x ↦ inner_below y x.0 x.2
        ]) in
        omega (arith, l, w.2)

    pub left_below : (IsHighAt : ℕ → ℕ → Type 0) (h root : ℕ) → At h root → IsHighAt h root
        → AreLeftBelow P IsLeaf IsHighAt root n
    left_below IsHighAt h root at high =
        let first : IsFirst P IsLeaf o.first = λ q l e. o.none_before q l e in
        let r = run P IsLeaf On Up o not_zero h n (few_all h root at) o.first first n [] o.first (omega arith) refl
        o.is_first in
        record {
          high = h;
          is_high = high;
          first = o.first;
          is_leaf = o.is_first;
          is_first = first;
          leaves = r.0;
          lead = r.1;
          enough = omega (arith, r.2);
        }

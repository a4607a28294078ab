-- A walk along links, over rising moments, reads no page twice.
use Rattle.std.proofs.Common.{◌≡◌, ◌≢◌, ◌<◌, ◌≤◌, ◌+◌, ◌-◌, ℕ, zero, suc, List, [], ◌∷◌, refl, sym, ap, subst, ◌∙◌, inl}
use Rattle.std.proofs.Common.{inr, arith}
use Rattle.std.specs.Prelude.{⊤}
use Rattle.core_state.specs.Log.{In}
use Rattle.core_state.specs.Trees.Nodes.{Node, TreeGhost}
use Rattle.core_state.specs.Trees.Nodes.TreePlace.{none}
use Rattle.core_state.proofs.Trees.Walk.{Read, Rising, rising_end}
use Rattle.core_state.proofs.Trees.Behind.{Comes, comes_to, comes_on, not_itself}
use Rattle.core_state.proofs.Trees.Forward.{Forward, GoesOn, LinksTo}

-- no page is read twice
abbrev pub Apart : List Read → Type 0
Apart [] = ⊤
Apart (x ∷ xs) = ((y : Read) → In y xs → x.page ≢ y.page) × Apart xs

-- each page but the first is one that the page before it led to, as that was read
abbrev pub Linked : {E : Type 0} → (ℕ → ℕ → Node E) → List Read → Type 0
Linked N [] = ⊤
Linked N (x ∷ []) = ⊤
Linked N (x ∷ y ∷ ys) = LinksTo (N x.time x.page) y.page × (y.page ≢ 0) × Linked N (y ∷ ys)

-- some list of this moment in which q comes after p
pub record Ordered {E : Type 0} (N : ℕ → Node E) (g : TreeGhost E) (p q : ℕ) : Type 0 where
  pub list : List ℕ
  pub forward : Forward N g list
  pub comes : Comes list p q

module _ {E : Type 0} (N : ℕ → ℕ → Node E) (g : ℕ → TreeGhost E) (start end : ℕ)
    (first : (L : List ℕ) × Forward (N start) (g start) L)
    (one_on : (t : ℕ) → start ≤ t → t < end → (L : List ℕ) → Forward (N t) (g t) L
    → (K : List ℕ) × Forward (N (t + 1)) (g (t + 1)) K × GoesOn L K)
  where
    later : (d s : ℕ) → start ≤ s → s + d ≤ end → (L : List ℕ) → Forward (N s) (g s) L
        → (K : List ℕ) × Forward (N (s + d)) (g (s + d)) K × GoesOn L K
    later zero s a b L F = subst (λ t. (K : List ℕ) × Forward (N t) (g t) K × GoesOn L K)
        (let e : s ≡ s + 0 = omega arith in e) (L, F, λ p q c. c)
    later (suc d) s a b L F =
        let one = one_on s a (omega (arith, b)) L F in
        let more = later d (s + 1) (omega (arith, a)) (omega (arith, b)) one.0 one.1 in
        subst (λ t. (K : List ℕ) × Forward (N t) (g t) K × GoesOn L K)
        (let e : s + 1 + d ≡ s + suc d = omega arith in e) (more.0, more.1, λ p q c. more.2 p q (one.2 p q c))

    until : (s t : ℕ) → start ≤ s → s ≤ t → t ≤ end → (L : List ℕ) → Forward (N s) (g s) L
        → (K : List ℕ) × Forward (N t) (g t) K × GoesOn L K
    until s t a b c L F =
        subst (λ u. (K : List ℕ) × Forward (N u) (g u) K × GoesOn L K)
        (let e : s + (t - s) ≡ t = omega (arith, b) in e) (later (t - s) s a (omega (arith, b, c)) L F)

    pub list_at : (t : ℕ) → start ≤ t → t ≤ end → (L : List ℕ) × Forward (N t) (g t) L
    list_at t a b = let k = until start t (omega arith) a b first.0 first.1 in (k.0, k.1)

    -- a page that was read comes before all that are read later
    before_all : (p : ℕ) (y : Read) (ys : List Read) → start ≤ y.time → Rising y.time end ys → y.time ≤ end
        → Ordered (N y.time) (g y.time) p y.page
        → Linked N (y ∷ ys) → (z : Read) → In z (y ∷ ys) → p ≢ z.page
    before_all p y ys a rise b o l z (inl e) f = not_itself o.list p o.forward.once
        (subst (Comes o.list p) (sym (f ∙ ap (λ (x : Read). x.page) e)) o.comes)
    before_all p y [] a rise b o l z (inr i) f = i
    before_all p y (x ∷ xs) a rise b o l z (inr i) f =
        let next = o.forward.leads y.page x.page (o.forward.only y.page (comes_to o.list p y.page o.comes)) l.0 l.1 in
        let here = comes_on o.list p y.page x.page o.forward.once o.comes next in
        let bound = rising_end x.time end xs rise.1 in
        let k = until y.time x.time a rise.0 bound o.list o.forward in
        before_all p x xs (omega (arith, a, rise.0)) rise.1 bound
        (record { list = k.0; forward = k.1; comes = k.2 p x.page here }) l.2 z i f

    pub apart : (t : ℕ) (xs : List Read) → start ≤ t → Rising t end xs → Linked N xs
        → ((x y : Read) (ys : List Read) → xs ≡ x ∷ y ∷ ys → (g x.time).place x.page ≢ none) → Apart xs
    apart t [] a rise l on = tt
    apart t (x ∷ []) a rise l on = (λ y i. absurd i, tt)
    apart t (x ∷ y ∷ ys) a rise l on =
        let from : start ≤ x.time = omega (arith, a, rise.0) in
        let bound : y.time ≤ end = rising_end y.time end ys rise.1.1 in
        let o = list_at x.time from (omega (arith, rise.1.0, bound)) in
        let next : Comes o.0 x.page y.page = o.1.leads x.page y.page (on x y ys refl) l.0 l.1 in
        let k = until x.time y.time from rise.1.0 bound o.0 o.1 in
        let then : Comes k.0 x.page y.page = k.2 x.page y.page next in (
          before_all x.page y ys (omega (arith, from, rise.1.0)) rise.1.1 bound
              (record { list = k.0; forward = k.1; comes = then }) l.2,
          apart x.time (y ∷ ys) from rise.1 l.2
              (λ z z' zs e. subst (λ (w : Read). (g w.time).place w.page ≢ none) (head_is y z ys (z' ∷ zs) e)
              (k.1.only y.page (comes_to k.0 x.page y.page then))),
        )
      where
        head_is : (y z : Read) (ys zs : List Read) → y ∷ ys ≡ z ∷ zs → y ≡ z
        head_is y z ys zs e = cc

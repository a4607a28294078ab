-- Pages in rising order, and one page more among them.
use Rattle.std.proofs.Common.{◌≡◌, ◌⊎◌, ◌<◌, ◌≤◌, ℕ, zero, suc, Bool, true, false, List, [], ◌∷◌, length, get_or, refl}
use Rattle.std.proofs.Common.{sym, ap, subst, ◌∙◌, inl, inr, arith}
use Rattle.std.specs.Prelude.{nat_lt, if◌then◌else◌}
use Rattle.std.specs.List.{insert}
use Rattle.core_state.specs.States.{with_page}
use Rattle.core_state.specs.Inner.Rising.{AreAbove, AreRising}

below : (a b : ℕ) → a < b → nat_lt a b ≡ true
below a b l = grind (arith, l)

not_below : (a b : ℕ) → b ≤ a → nat_lt a b ≡ false
not_below a b l = grind (arith, l)

pub order : (a b : ℕ) → (a < b) ⊎ (b ≤ a)
order a b = grind arith

-- a page below the first one
pub at_front : (p q : ℕ) (qs : List ℕ) → p < q → with_page p (q ∷ qs) ≡ p ∷ q ∷ qs
at_front p q qs l = ap (λ (b : Bool). if b then p ∷ q ∷ qs else (if nat_lt q p then q ∷ with_page p qs else q ∷ qs))
    (below p q l)

-- a page above the first one
pub behind : (p q : ℕ) (qs : List ℕ) → q < p → with_page p (q ∷ qs) ≡ q ∷ with_page p qs
behind p q qs l =
    ap (λ (b : Bool). if b then p ∷ q ∷ qs else (if nat_lt q p then q ∷ with_page p qs else q ∷ qs))
    (not_below p q (omega (arith, l)))
    ∙ ap (λ (b : Bool). if b then q ∷ with_page p qs else q ∷ qs) (below q p l)

-- the first one
pub first : (p q : ℕ) (qs : List ℕ) → p ≡ q → with_page p (q ∷ qs) ≡ q ∷ qs
first p q qs e =
    ap (λ (b : Bool). if b then p ∷ q ∷ qs else (if nat_lt q p then q ∷ with_page p qs else q ∷ qs))
    (not_below p q (omega (arith, e)))
    ∙ ap (λ (b : Bool). if b then q ∷ with_page p qs else q ∷ qs) (not_below q p (omega (arith, e)))

lower : (p q : ℕ) (qs : List ℕ) → p < q → AreAbove q qs → AreAbove p qs
lower p q [] l a = tt
lower p q (r ∷ qs) l a = (omega (arith, l, a.0), lower p q qs l a.1)

above_more : (q p : ℕ) (qs : List ℕ) → q < p → AreAbove q qs → AreAbove q (with_page p qs)
above_more q p [] l a = (l, tt)
above_more q p (r ∷ qs) l a = elim (order p r) [
  | inl f ↦ subst (AreAbove q) (sym (at_front p r qs f)) (l, a)
  | inr g ↦ elim (order r p) [
    | inl f ↦ subst (AreAbove q) (sym (behind p r qs f)) (a.0, above_more q p qs l a.1)
    | inr h ↦ subst (AreAbove q) (sym (first p r qs (omega (arith, g, h)))) a
  ]
]

-- rising pages with one more rise
pub rising_more : (p : ℕ) (qs : List ℕ) → AreRising qs → AreRising (with_page p qs)
rising_more p [] a = (tt, tt)
rising_more p (q ∷ qs) a = elim (order p q) [
  | inl f ↦ subst AreRising (sym (at_front p q qs f)) ((f, lower p q qs f a.0), a)
  | inr g ↦ elim (order q p) [
    | inl f ↦ subst AreRising (sym (behind p q qs f)) (above_more q p qs f a.0, rising_more p qs a.1)
    | inr h ↦ subst AreRising (sym (first p q qs (omega (arith, g, h)))) a
  ]
]

above_at : (p : ℕ) (qs : List ℕ) (k : ℕ) → AreAbove p qs → k < length qs → p < get_or qs k 0
above_at p [] k a l = absurd (omega (arith, l))
above_at p (q ∷ qs) zero a l = a.0
above_at p (q ∷ qs) (suc k) a l = above_at p qs k a.1 (omega (arith, l))

-- they rise by index
pub rising_at : (qs : List ℕ) → AreRising qs → (i j : ℕ) → i ≤ j → j < length qs → get_or qs i 0 ≤ get_or qs j 0
rising_at [] a i j le lt = absurd (omega (arith, lt))
rising_at (q ∷ qs) a zero zero le lt = omega arith
rising_at (q ∷ qs) a zero (suc j) le lt = omega (arith, above_at q qs j a.0 (omega (arith, lt)))
rising_at (q ∷ qs) a (suc i) zero le lt = absurd (omega (arith, le))
rising_at (q ∷ qs) a (suc i) (suc j) le lt = rising_at qs a.1 i j (omega (arith, le)) (omega (arith, lt))

-- each once
pub rises_at : (qs : List ℕ) → AreRising qs → (i j : ℕ) → i < j → j < length qs → get_or qs i 0 < get_or qs j 0
rises_at [] a i j le lt = absurd (omega (arith, lt))
rises_at (q ∷ qs) a zero zero le lt = absurd (omega (arith, le))
rises_at (q ∷ qs) a zero (suc j) le lt = above_at q qs j a.0 (omega (arith, lt))
rises_at (q ∷ qs) a (suc i) zero le lt = absurd (omega (arith, le))
rises_at (q ∷ qs) a (suc i) (suc j) le lt = rises_at qs a.1 i j (omega (arith, le)) (omega (arith, lt))

-- a place is no number above that of its page
pub place_at_most : (qs : List ℕ) → AreRising qs → (k : ℕ) → k < length qs → k ≤ get_or qs k 0
place_at_most qs a zero lt = omega arith
place_at_most qs a (suc k) lt =
    let before = place_at_most qs a k (omega (arith, lt)) in
    omega (arith, before, rises_at qs a k (suc k) (omega arith) lt)

-- a page that is there
pub page_there : (qs : List ℕ) (i p : ℕ) → AreRising qs → i < length qs → get_or qs i 0 ≡ p → with_page p qs ≡ qs
page_there [] i p a lt e = absurd (omega (arith, lt))
page_there (q ∷ qs) zero p a lt e = first p q qs (sym e)
page_there (q ∷ qs) (suc i) p a lt e =
    let above : q < get_or qs i 0 = above_at q qs i a.0 (omega (arith, lt)) in
    behind p q qs (omega (arith, above, e))
    ∙ ap (λ (rs : List ℕ). q ∷ rs) (page_there qs i p a.1 (omega (arith, lt)) e)

-- a page at its place
pub page_put : (qs : List ℕ) (i p : ℕ) → i ≤ length qs → ((k : ℕ) → k < i → get_or qs k 0 < p)
    → ((k : ℕ) → i ≤ k → k < length qs → p < get_or qs k 0)
    → with_page p qs ≡ insert qs i p
page_put [] zero p le low high = refl
page_put [] (suc i) p le low high = absurd (omega (arith, le))
page_put (q ∷ qs) zero p le low high = at_front p q qs (high 0 (omega arith) (omega arith))
page_put (q ∷ qs) (suc i) p le low high =
    behind p q qs (low 0 (omega arith))
    ∙ ap (λ (rs : List ℕ). q ∷ rs)
    (page_put qs i p (omega (arith, le)) (λ k l. low (suc k) (omega (arith, l)))
    (λ k l m. high (suc k) (omega (arith, l)) (omega (arith, m))))

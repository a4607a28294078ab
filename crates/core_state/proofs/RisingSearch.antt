-- The first of rising pages that isn't below a page, and pages that come to them.
use Rattle.std.proofs.Common.{◌≡◌, ◌⊎◌, ◌<◌, ◌≤◌, ℕ, zero, suc, List, [], ◌∷◌, length, get_or, refl, sym, subst, inl}
use Rattle.std.proofs.Common.{inr, arith}
use Rattle.std.specs.Prelude.{Option, Some, None}
use Rattle.std.specs.List.{slice_get}
use Rattle.core_state.specs.Log.{In}
use Rattle.core_state.specs.PageChoice.{IsLeast, IsLeastIfAny}
use Rattle.core_state.specs.States.{with_page}
use Rattle.core_state.specs.Inner.Rising.{AreRising}
use Rattle.core_state.proofs.RisingPages.{rising_at, order, at_front, behind, first}

-- a page of the list at its place
pub record IsThere (qs : List ℕ) (q : ℕ) : Type 0 where
  pub place : ℕ
  pub within : place < length qs
  pub is : get_or qs place 0 ≡ q

pub there : (q : ℕ) (qs : List ℕ) → In q qs → IsThere qs q
there q [] i = absurd i
there q (r ∷ qs) (inl e) = record { place = 0; within = omega arith; is = sym e }
there q (r ∷ qs) (inr i) =
    let w = there q qs i in record { place = suc w.place; within = omega (arith, w.within); is = w.is }

pub in_at : (qs : List ℕ) (k : ℕ) → k < length qs → In (get_or qs k 0) qs
in_at [] k l = absurd (omega (arith, l))
in_at (q ∷ qs) zero l = inl refl
in_at (q ∷ qs) (suc k) l = inr (in_at qs k (omega (arith, l)))

abbrev From : ℕ → List ℕ → ℕ → Type 0
From page qs p = (page ≤ p) × In p qs

pub get_some : (qs : List ℕ) (k p : ℕ) → slice_get qs k ≡ Some p → (k < length qs) × (get_or qs k 0 ≡ p)
get_some [] k p e = absurd (cc)
get_some (q ∷ qs) zero p e = (omega arith, cc)
get_some (q ∷ qs) (suc k) p e = let w = get_some qs k p e in (omega (arith, w.0), w.1)

get_none : (qs : List ℕ) (k : ℕ) → slice_get qs k ≡ None → length qs ≤ k
get_none [] k e = omega arith
get_none (q ∷ qs) zero e = absurd (cc)
get_none (q ∷ qs) (suc k) e = omega (arith, get_none qs k e)

least_by : (qs : List ℕ) (i page : ℕ) (o : Option ℕ) → slice_get qs i ≡ o → AreRising qs
    → ((k : ℕ) → k < i → get_or qs k 0 < page) → ((k : ℕ) → i ≤ k → k < length qs → page < get_or qs k 0)
    → IsLeastIfAny (From page qs) o
least_by qs i page None e up low high = λ p w.
    let t = there p qs w.1 in
    let past = get_none qs i e in
    let below : get_or qs t.place 0 < page = low t.place (omega (arith, past, t.within)) in
    omega (arith, below, t.is, w.0)
least_by qs i page (Some p) e up low high =
    let g = get_some qs i p e in
    let here : page < get_or qs i 0 = high i (omega arith) g.0 in
    record {
      holds = (omega (arith, here, g.1), subst (λ (x : ℕ). In x qs) g.1 (in_at qs i g.0));
      least = λ q w.
          let t = there q qs w.1 in
          elim (order t.place i) [
            | inl before ↦ absurd (no_way (get_or qs t.place 0) page q (low t.place before) t.is w.0)
            | inr past ↦ omega (arith, rising_at qs up i t.place past t.within, g.1, t.is)
          ];
    }
  where
    no_way : (a b c : ℕ) → a < b → a ≡ c → b ≤ c → ⊥
    no_way a b c l e m = omega (arith, l, e, m)

pub least_at : (qs : List ℕ) (i page : ℕ) → AreRising qs → ((k : ℕ) → k < i → get_or qs k 0 < page)
    → ((k : ℕ) → i ≤ k → k < length qs → page < get_or qs k 0)
    → IsLeastIfAny (λ (p : ℕ). (page ≤ p) × In p qs) (slice_get qs i)
least_at qs i page up low high = least_by qs i page (slice_get qs i) refl up low high

pub least_here : (qs : List ℕ) (i page : ℕ) → i < length qs → get_or qs i 0 ≡ page
    → IsLeast (λ (p : ℕ). (page ≤ p) × In p qs) page
least_here qs i page l e = record {
  holds = (omega arith, subst (λ (x : ℕ). In x qs) e (in_at qs i l));
  least = λ q w. w.0;
}

-- a page more among rising ones
pub in_with : (p : ℕ) (qs : List ℕ) → In p (with_page p qs)
in_with p [] = inl refl
in_with p (q ∷ qs) = elim (order p q) [
  | inl f ↦ subst (In p) (sym (at_front p q qs f)) (inl refl)
  | inr g ↦ elim (order q p) [
    | inl f ↦ subst (In p) (sym (behind p q qs f)) (inr (in_with p qs))
    | inr h ↦ let e : p ≡ q = omega (arith, g, h) in subst (In p) (sym (first p q qs e)) (inl e)
  ]
]

pub in_still : (p r : ℕ) (qs : List ℕ) → In r qs → In r (with_page p qs)
in_still p r [] i = absurd i
in_still p r (q ∷ qs) i = elim (order p q) [
  | inl f ↦ subst (In r) (sym (at_front p q qs f)) (inr i)
  | inr g ↦ elim (order q p) [
    | inl f ↦ subst (In r) (sym (behind p q qs f)) (elim i [ inl e ↦ inl e | inr j ↦ inr (in_still p r qs j) ])
    | inr h ↦ let e : p ≡ q = omega (arith, g, h) in subst (In r) (sym (first p q qs e)) i
  ]
]

pub in_back : (p r : ℕ) (qs : List ℕ) → In r (with_page p qs) → (r ≡ p) ⊎ In r qs
in_back p r [] i = elim i [ inl e ↦ inl e | inr j ↦ absurd j ]
in_back p r (q ∷ qs) i = elim (order p q) [
  | inl f ↦
      let j : In r (p ∷ q ∷ qs) = subst (In r) (at_front p q qs f) i in elim j [ inl e ↦ inl e | inr k ↦ inr k ]
  | inr g ↦ elim (order q p) [
    | inl f ↦
        let j : In r (q ∷ with_page p qs) = subst (In r) (behind p q qs f) i in
        elim j [
          | inl e ↦ inr (inl e)
          | inr k ↦ elim (in_back p r qs k) [ inl e ↦ inl e | inr m ↦ inr (inr m) ]
        ]
    | inr h ↦ let e : p ≡ q = omega (arith, g, h) in inr (subst (In r) (first p q qs e) i)
  ]
]

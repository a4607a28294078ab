-- An item is sought in a list in order from a number on before which all are below it.
use Rattle.std.proofs.Common.{◌≡◌, ◌↔◌, ℕ, ◌+◌, ◌-◌, ◌<◌, ◌≤◌, Bool, false, true, IsTrue, List, length, get_or}
use Rattle.std.proofs.Common.{nat_eq}
use Rattle.std.proofs.Common.{sym, subst, inl, inr, arith, AllPairs}
use Rattle.std.proofs.lemmas.Bool.{cases_lt, false≢true}
use Rattle.core_state.specs.Log.{In}
use Rattle.core_moments.proofs.Words.{same_number, number_itself}
use Rattle.gin_hits.specs.Inner.Near.{AreBelow}
use Rattle.gin_hits.proofs.ItemLists.{in_order, is_at, at_place}

-- the last of them is below it, so all are
pub below_last : (items : List ℕ) (n item : ℕ) → AllPairs (λ (i j : ℕ). i ≤ j) items → 0 < n → n ≤ length items
    → get_or items (n - 1) 0 < item → AreBelow items n item
below_last items n item pairs some le less k lt within =
    omega (arith, in_order items pairs k (n - 1) (omega (arith, some, lt)) (omega (arith, some, le)), less)

-- one more
pub below_more : (items : List ℕ) (n item : ℕ) → AreBelow items n item → get_or items n 0 < item
    → AreBelow items (n + 1) item
below_more items n item before less k lt within = elim (cases_lt k n) [
  | inl below ↦ before k below within
  | inr above ↦
      let same : k ≡ n = omega (arith, lt, above) in
      subst (λ (j : ℕ). get_or items j 0 < item) (sym same) less
]

-- the first that isn't below it is the item itself, or the list hasn't the item
pub near_has : (items : List ℕ) (at item : ℕ) (b : Bool) → AllPairs (λ (i j : ℕ). i ≤ j) items
    → AreBelow items at item → (at < length items → item ≤ get_or items at 0)
    → IsTrue b ↔ ((at < length items) × (get_or items at 0 ≡ item)) → IsTrue b ↔ In item items
near_has items at item b pairs below there is = (
  (λ e. let f = is.0 e in subst (λ (y : ℕ). In y items) f.1 (is_at items at 0 f.0)),
  (λ m. found (at_place item items m)),
)
  where
    found : ((k : ℕ) × (k < length items) × (get_or items k 0 ≡ item)) → IsTrue b
    found (k, lt, e) = elim (cases_lt k at) [
      | inl before ↦ absurd (omega (arith, below k before lt, e))
      | inr behind ↦
          let within : at < length items = omega (arith, behind, lt) in
          let least = there within in
          let most = in_order items pairs at k behind lt in
          is.1 (within, omega (arith, least, most, e))
    ]

module _ (items : List ℕ) (at item : ℕ) (pairs : AllPairs (λ (i j : ℕ). i ≤ j) items) (below : AreBelow items at item)
  where
    -- it is the item, or it isn't
    pub near_there : (at < length items → item ≤ get_or items at 0) → at < length items
        → IsTrue (nat_eq (get_or items at 0) item) ↔ In item items
    near_there there within =
        near_has items at item (nat_eq (get_or items at 0) item) pairs below there (
          (λ e. (within, same_number (get_or items at 0) item e)),
          (λ f. subst (λ (y : ℕ). nat_eq y item ≡ true) (sym f.1) (number_itself item)),
        )

    -- all are below it
    pub near_absent : (at < length items → ⊥) → IsTrue false ↔ In item items
    near_absent past =
        near_has items at item false pairs below (λ within. absurd (past within))
        ((λ e. absurd (false≢true e)), (λ f. absurd (past f.0)))

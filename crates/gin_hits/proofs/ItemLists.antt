-- Lists of items in order: whether one has an item.
use Rattle.std.proofs.Common.{◌≡◌, ◌⊎◌, ◌↔◌, ℕ, eqb, zero, suc, ◌<◌, ◌≤◌, Bool, IsTrue, List, [], ◌∷◌, length, get_or}
use Rattle.std.proofs.Common.{Result, Ok, Err}
use Rattle.std.proofs.Common.{refl, sym, ap, ap₂, subst, ◌∙◌, inl, inr, arith, map, replicate, ◌+◌, ◌++◌, AllPairs}
use Rattle.std.proofs.lemmas.List.{map_push, replicate-append-replicate}
use Rattle.std.specs.Prelude.{Vec}
use Rattle.std.specs.declared.alloc.Global.{Global}
use Rattle.std.specs.Result.{is_ok}
use Rattle.std.specs.Ordering.{nat_cmp}
use Rattle.std.specs.List.{dedup}
use Rattle.std.specs.List.Sorted.{IsBinarySearchResult, IsPermutation, IsSorted}
use Rattle.std.specs.List.Retain.{IsFiltered, DiffersFromLast}
use Rattle.std.proofs.lemmas.Bool.{cases_lt, false≢true}
use Rattle.std.proofs.lemmas.List.Sorted.{searched, Contains-permutation, IsPermutation-sym}
use Rattle.std.proofs.lemmas.List.Sorted.{IsNonDecreasingBy-from_sort}
use Rattle.std.proofs.lemmas.List.Filters.{dedup_is}
use Rattle.std.proofs.lemmas.List.Kept.{AllPairs-from_increasing, Contains-dedup_nat, Contains-from_dedup}
use Rattle.std.proofs.lemmas.Map.Keys.{IsStrictlyIncreasing-dedup}
use Rattle.core_state.specs.Log.{In}
use Rattle.core_moments.proofs.Words.{contained, contains}

-- the items in a vector
abbrev pub items_in : Vec ℕ Global → List ℕ
items_in v = v.items

before_or_same : (i j : ℕ) → i ≤ j → (i < j) ⊎ (i ≡ j)
before_or_same i j le = grind (arith, le)

pub in_order : (xs : List ℕ) → AllPairs (λ (i j : ℕ). i ≤ j) xs → (i j : ℕ) → i ≤ j → j < length xs
    → get_or xs i 0 ≤ get_or xs j 0
in_order xs pairs i j le lt = elim (before_or_same i j le) [
  | inl less ↦ pairs i j 0 less lt
  | inr same ↦ subst (λ (k : ℕ). get_or xs i 0 ≤ get_or xs k 0) same (omega arith)
]

pub at_place : (x : ℕ) (xs : List ℕ) → In x xs → (k : ℕ) × (k < length xs) × (get_or xs k 0 ≡ x)
at_place x [] i = absurd i
at_place x (y ∷ ys) (inl e) = (zero, omega arith, sym e)
at_place x (y ∷ ys) (inr i) = let f = at_place x ys i in (suc f.0, omega (arith, f.1), f.2)

pub is_at : (xs : List ℕ) (k d : ℕ) → k < length xs → In (get_or xs k d) xs
is_at [] k d lt = absurd (omega (arith, lt))
is_at (x ∷ xs) zero d lt = inl refl
is_at (x ∷ xs) (suc k) d lt = inr (is_at xs k d (omega (arith, lt)))

-- what a binary search says
pub has_item : (xs : List ℕ) (x : ℕ) (r : Result ℕ ℕ) (b : Bool) → AllPairs (λ (i j : ℕ). i ≤ j) xs
    → IsBinarySearchResult (λ y. nat_cmp y x) xs r → b ≡ is_ok r → IsTrue b ↔ In x xs
has_item xs x (Ok i) b pairs found is =
    let at = searched xs x (Ok i) found (in_order xs pairs) in
    (λ e. subst (λ (y : ℕ). In y xs) at.1 (is_at xs i 0 at.0), λ c. is)
has_item xs x (Err i) b pairs found is =
    let at = searched xs x (Err i) found (in_order xs pairs) in
    (λ e. absurd (false≢true (sym is ∙ e)), λ c. absurd (elsewhere at.1 at.2 (at_place x xs c)))
  where
    elsewhere : ((k : ℕ) → k < i → get_or xs k 0 < x) → ((k : ℕ) → i ≤ k → k < length xs → x < get_or xs k 0)
        → ((k : ℕ) × (k < length xs) × (get_or xs k 0 ≡ x)) → ⊥
    elsewhere low high (k, lt, e) = elim (cases_lt k i) [
      | inl below ↦ absurd (omega (arith, low k below, e))
      | inr above ↦ absurd (omega (arith, high k above lt, e))
    ]

-- ── in order, and each once ──

-- the same items, in another order
pub permuted : (xs ys : List ℕ) → IsPermutation xs ys → (i : ℕ) → In i ys ↔ In i xs
permuted xs ys p i = (
  (λ m. contained i xs (Contains-permutation ys xs i (IsPermutation-sym xs ys p) (contains i ys m))),
  (λ m. contained i ys (Contains-permutation xs ys i p (contains i xs m))),
)

-- after a sort
pub sorted_pairs : (xs : List ℕ) → IsSorted nat_cmp xs → AllPairs (λ (i j : ℕ). i ≤ j) xs
sorted_pairs xs sorted i j d lt within =
    IsNonDecreasingBy-from_sort (λ (x : ℕ). x) xs sorted i j d (omega (arith, lt)) within

-- after a sort each item once
module _ (xs ys : List ℕ) (once : IsFiltered (DiffersFromLast eqb) [] xs ys) where
  pub rising_once : IsSorted nat_cmp xs → AllPairs (λ (i j : ℕ). i < j) ys
  rising_once sorted =
      subst (AllPairs (λ (i j : ℕ). i < j)) (sym (dedup_is eqb xs ys once))
      (AllPairs-from_increasing (dedup eqb xs) (IsStrictlyIncreasing-dedup xs sorted))

  pub same_once : (i : ℕ) → In i ys ↔ In i xs
  same_once i =
      subst (λ (zs : List ℕ). In i zs ↔ In i xs) (sym (dedup_is eqb xs ys once)) (
        (λ m. contained i xs (Contains-from_dedup eqb xs i (contains i (dedup eqb xs) m))),
        (λ m. contained i (dedup eqb xs) (Contains-dedup_nat xs i (contains i xs m))),
      )

-- an empty list more
pub one_empty : (old new : List (Vec ℕ Global)) (v : Vec ℕ Global) (n : ℕ) → new ≡ old ++ v ∷ [] → v.items ≡ []
    → map items_in old ≡ replicate {A = List ℕ} n [] → map items_in new ≡ replicate {A = List ℕ} (n + 1) []
one_empty old new v n more none was =
    ap (map items_in) more ∙ map_push items_in old v
    ∙ ap₂ (λ (ls : List (List ℕ)) (list : List ℕ). ls ++ list ∷ []) was none
    ∙ replicate-append-replicate n 1 []

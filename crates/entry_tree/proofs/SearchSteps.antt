-- A search among marks that rise, step by step.
use Rattle.std.proofs.Common.{◌≡◌, ◌≢◌, ◌⊎◌, ◌↔◌, ℕ, ◌+◌, ◌<◌, ◌≤◌, Bool, List, [], length, get_or, refl, sym, ap}
use Rattle.std.proofs.Common.{subst, ◌∙◌, inl, inr, arith, nat_cmp, Less, Equal, Greater, Ordering}
use Rattle.std.specs.Prelude.{IsTrue}
use Rattle.std.specs.Ordering.{is_lt}
use Rattle.std.specs.Cmp.Lexicographic.{slice_cmp}
use Rattle.page_types.specs.Keys.{BoundLess, Rising}
use Rattle.entry_tree.specs.Finding.{IsBelow}
use Rattle.entry_tree.specs.Inner.Searching.{IsBetween}
use Rattle.entry_tree.proofs.KeyOrders.{less_below, rising_at}

before_or_at : (j m : ℕ) → j < m + 1 → (j < m) ⊎ (j ≡ m)
before_or_at j m lt = grind arith

pub between_starts : (key : List ℕ) (all : List (List ℕ)) → IsBetween key all 0 (length all)
between_starts key all = record {
  ordered = omega arith;
  within = omega arith;
  below = λ j lt. absurd (omega (arith, lt));
  above = λ j le lt. absurd (omega (arith, le, lt));
}

pub between_up : (key : List ℕ) (all : List (List ℕ)) (low high m : ℕ) → Rising BoundLess all
    → IsBetween key all low high → m < high → IsBelow (get_or all m []) key → IsBetween key all (m + 1) high
between_up key all low high m rises w lt here =
    let below = λ (j : ℕ) (before : j < m + 1).
    elim (before_or_at j m before) as (λ _. IsBelow (get_or all j []) key) [
      | inl less ↦
          less_below (get_or all j []) (get_or all m []) key
          (rising_at BoundLess all [] rises j m less (omega (arith, lt, w.within))) here
      | inr same ↦ subst (λ (i : ℕ). IsBelow (get_or all i []) key) (sym same) here
    ] in
    record { ordered = omega (arith, lt); within = w.within; below = below; above = w.above }

pub between_down : (key : List ℕ) (all : List (List ℕ)) (low high m : ℕ) → Rising BoundLess all
    → IsBetween key all low high → low ≤ m → m < high → (IsBelow (get_or all m []) key → ⊥) → IsBetween key all low m
between_down key all low high m rises w le lt not_so =
    let above = λ (j : ℕ) (from : m ≤ j) (within : j < length all) (b : IsBelow (get_or all j []) key).
    elim (before_or_at m j (omega (arith, from))) as (λ _. ⊥) [
      | inl less ↦
          not_so (less_below (get_or all m []) (get_or all j []) key
          (rising_at BoundLess all [] rises m j less within) b)
      | inr same ↦ not_so (subst (λ (i : ℕ). IsBelow (get_or all i []) key) (sym same) b)
    ] in
    record { ordered = le; within = omega (arith, lt, w.within); below = w.below; above = above }

-- ---- what a comparison says

less_of : (o : Ordering) → IsTrue (is_lt o) → o ≡ Less
less_of Less e = refl
less_of Equal e = absurd (let z : ⊥ = cc in z)
less_of Greater e = absurd (let z : ⊥ = cc in z)

pub below_told : (bound key : List ℕ) (o : Ordering) (b : Bool) → bound ≢ [] → o ≡ slice_cmp nat_cmp bound key
    → b ≡ is_lt o → IsTrue b ↔ IsBelow bound key
below_told bound key o b some is told = (
  λ t. (some, sym is ∙ less_of o (sym told ∙ t)),
  λ below. told ∙ ap is_lt (is ∙ below.1),
)

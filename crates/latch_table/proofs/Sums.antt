-- Sums over all views, where one changes or one comes.
use Rattle.std.proofs.Common.{◌≡◌, ◌≢◌, ℕ, zero, suc, ◌+◌, ◌≤◌, List, [], ◌∷◌, ◌++◌, set, refl, sym, ap, arith}
use mathlib.Core.Option.{some, some-ne-none}
use lib.ListN.{get_elem?}
use Rattle.latch_table.specs.Shapes.{total, times}

-- where one view changes
pub total_set : {V : Type 0} (f : V → ℕ) (vs : List V) (j : ℕ) (v w : V) → get_elem? vs j ≡ some v
    → total f (set vs j w) + f v ≡ total f vs + f w
total_set f [] j v w at = absurd (some-ne-none v (sym at))
total_set f (x ∷ vs) zero v w at = let e : f x ≡ f v = ap f (cc at) in omega arith
total_set f (x ∷ vs) (suc j) v w at = let r = total_set f vs j v w at in omega arith

-- no view has more than all together
pub total_one : {V : Type 0} (f : V → ℕ) (vs : List V) (j : ℕ) (v : V) → get_elem? vs j ≡ some v → f v ≤ total f vs
total_one f [] j v at = absurd (some-ne-none v (sym at))
total_one f (x ∷ vs) zero v at = let e : f x ≡ f v = ap f (cc at) in omega arith
total_one f (x ∷ vs) (suc j) v at = let r = total_one f vs j v at in omega arith

-- nor have two
pub total_two : {V : Type 0} (f : V → ℕ) (vs : List V) (i j : ℕ) (v w : V) → i ≢ j → get_elem? vs i ≡ some v
    → get_elem? vs j ≡ some w → f v + f w ≤ total f vs
total_two f [] i j v w ne a b = absurd (some-ne-none v (sym a))
total_two f (x ∷ vs) zero zero v w ne a b = absurd (ne refl)
total_two f (x ∷ vs) zero (suc j) v w ne a b =
    let e : f x ≡ f v = ap f (cc a) in let r = total_one f vs j w b in omega arith
total_two f (x ∷ vs) (suc i) zero v w ne a b =
    let e : f x ≡ f w = ap f (cc b) in let r = total_one f vs i v a in omega arith
total_two f (x ∷ vs) (suc i) (suc j) v w ne a b = let r = total_two f vs i j v w (λ e. ne (ap suc e)) a b in omega arith

-- where one comes
pub total_more : {V : Type 0} (f : V → ℕ) (vs : List V) (w : V) → total f (vs ++ w ∷ []) ≡ total f vs + f w
total_more f [] w = omega arith
total_more f (x ∷ vs) w = let r = total_more f vs w in omega arith

pub times_more : (k : ℕ) (xs ys : List ℕ) → times k (xs ++ ys) ≡ times k xs + times k ys
times_more k [] ys = omega arith
times_more k (x ∷ xs) ys = let r = times_more k xs ys in omega arith

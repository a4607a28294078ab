-- The first of some items, and those that remain.
use Rattle.std.proofs.Common.{◌≡◌, ◌+◌, ℕ, zero, suc, List, [], ◌∷◌, ◌++◌, take, drop, refl, sym, ap, ◌∙◌, inr, arith}
use Rattle.core_state.specs.Log.{In}

none_taken : (n : ℕ) → ◌≡◌ {A = List ℕ} (take n []) []
none_taken zero = refl
none_taken (suc n) = refl

-- the first ones, and so many more
pub taken_more : (n m : ℕ) (is : List ℕ) → take (n + m) is ≡ take n is ++ take m (drop n is)
taken_more zero m is = ap (λ (k : ℕ). take k is) (let e : zero + m ≡ m = omega arith in e)
taken_more (suc n) m [] = none_taken (suc n + m) ∙ sym (none_taken m)
taken_more (suc n) m (i ∷ is) =
    ap (λ (k : ℕ). take k (i ∷ is)) (let e : suc n + m ≡ suc (n + m) = omega arith in e)
    ∙ ap (λ (l : List ℕ). i ∷ l) (taken_more n m is)

-- where none remains the first ones are all
pub none_dropped : (n : ℕ) (is : List ℕ) → drop n is ≡ [] → take n is ≡ is
none_dropped zero is none = sym none
none_dropped (suc n) [] none = refl
none_dropped (suc n) (i ∷ is) none = ap (λ (l : List ℕ). i ∷ l) (none_dropped n is none)

-- what remains is in the list
pub among_left : (i n : ℕ) (is : List ℕ) → In i (drop n is) → In i is
among_left i zero is on = on
among_left i (suc n) [] on = absurd on
among_left i (suc n) (j ∷ is) on = inr (among_left i n is on)

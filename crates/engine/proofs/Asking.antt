-- What is read of the state of a log, one commit after another.
use Rattle.std.proofs.Common.{◌≡◌, ℕ, zero, suc, ◌+◌, ◌-◌, List, [], ◌∷◌, ◌++◌, map, take, Some, sym, ap, ◌∙◌, arith}
use Rattle.std.specs.List.{slice_get}
use Rattle.std.proofs.lemmas.List.{map-append}

-- the first elements and the next
take_next : {A : Type 0} (n : ℕ) (xs : List A) (x : A) → slice_get xs n ≡ Some x → take (suc n) xs ≡ take n xs ++ x ∷ []
take_next n [] x e = cc
take_next zero (y ∷ xs) x e =
    let same : y ≡ x = cc in
    ap (λ z. z ∷ []) same
take_next (suc n) (y ∷ xs) x e = ap (λ zs. y ∷ zs) (take_next n xs x e)

-- one more of what was made of the first elements
pub one_more : {A B : Type 0} (f : A → B) (xs : List A) (x : A) (ys : List B) (n : ℕ) → map f xs ≡ take n ys
    → slice_get ys (n + 1 - 1) ≡ Some (f x) → map f (xs ++ x ∷ []) ≡ take (n + 1) ys
one_more f xs x ys n before at =
    let here : n + 1 - 1 ≡ n = omega arith in
    let next : n + 1 ≡ suc n = omega arith in
    map-append f xs (x ∷ []) ∙ ap (λ zs. zs ++ f x ∷ []) before
    ∙ sym (take_next n ys (f x) (sym (ap (slice_get ys) here) ∙ at)) ∙ ap (λ k. take k ys) (sym next)

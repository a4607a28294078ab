-- Elements of a list that are changed one after another.
use Rattle.std.proofs.Common.{◌≡◌, ◌<◌, ◌+◌, ℕ, zero, suc, List, [], ◌∷◌, ◌++◌, length, map, take, drop, get_or, refl}
use Rattle.std.proofs.Common.{ap, ◌∙◌, arith}
use Rattle.std.specs.Prelude.{set}

changed_at : {A : Type 0} (f : A → A) (xs : List A) (i : ℕ) (d : A) → i < length xs
    → get_or (map f (take i xs) ++ drop i xs) i d ≡ get_or xs i d
changed_at {A} f [] i d lt = absurd (omega (arith, lt))
changed_at {A} f (x ∷ xs) zero d lt = refl
changed_at {A} f (x ∷ xs) (suc i) d lt = changed_at f xs i d (omega (arith, lt))

changed_one : {A : Type 0} (f : A → A) (xs : List A) (i : ℕ) (d y : A) → i < length xs → y ≡ f (get_or xs i d)
    → set (map f (take i xs) ++ drop i xs) i y ≡ map f (take (suc i) xs) ++ drop (suc i) xs
changed_one {A} f [] i d y lt e = absurd (omega (arith, lt))
changed_one {A} f (x ∷ xs) zero d y lt e = ap (λ (z : A). z ∷ xs) e
changed_one {A} f (x ∷ xs) (suc i) d y lt e = ap (λ (l : List A). f x ∷ l)
    (changed_one f xs i d y (omega (arith, lt)) e)

pub changed_more : {A : Type 0} (f : A → A) (xs items : List A) (i : ℕ) (x y : A)
    → items ≡ map f (take i xs) ++ drop i xs → i < length xs → x ≡ get_or items i x → y ≡ f x
    → set items i y ≡ map f (take (i + 1) xs) ++ drop (i + 1) xs
changed_more {A} f xs items i x y is lt at e =
    let here : x ≡ get_or xs i x = at ∙ ap (λ (l : List A). get_or l i x) is ∙ changed_at f xs i x lt in
    let next : suc i ≡ i + 1 = omega arith in
    ap (λ (l : List A). set l i y) is ∙ changed_one f xs i x y lt (e ∙ ap f here)
    ∙ ap (λ (k : ℕ). map f (take k xs) ++ drop k xs) next

-- Elements of a list before and after a place.
use Rattle.std.proofs.Common.{◌≡◌, ℕ, zero, suc, ◌<◌, ◌≤◌, List, [], ◌∷◌, ◌++◌, length, map, take, drop, get_or, sym}
use Rattle.std.proofs.Common.{ap, subst, inl, inr, arith}
use Rattle.std.specs.Prelude.{Some}
use Rattle.std.specs.List.{AllByRecursion, slice_get}
use Rattle.std.proofs.lemmas.Option.{same_Some}
use Rattle.core_state.specs.Log.{In}

-- an element has a place in the list, with its mark there
pub record IsAt {A : Type 0} (f : A → List ℕ) (xs : List A) (x : A) (j : ℕ) : Type 0 where
  pub within : j < length xs
  pub there : slice_get xs j ≡ Some x
  pub mark : get_or (map f xs) j [] ≡ f x

pub at_later : {A : Type 0} (f : A → List ℕ) (y x : A) (xs : List A) (j : ℕ) → IsAt f xs x j → IsAt f (y ∷ xs) x (suc j)
at_later f y x xs j w = record { within = omega (arith, w.within); there = w.there; mark = w.mark }

at_first : {A : Type 0} (f : A → List ℕ) (y x : A) (xs : List A) → x ≡ y → IsAt f (y ∷ xs) x zero
at_first f y x xs e = record { within = omega arith; there = ap Some (sym e); mark = ap f (sym e) }

pub in_front : {A : Type 0} (f : A → List ℕ) (k : ℕ) (xs : List A) (x : A) → In x (take k xs)
    → (j : ℕ) × (j < k) × IsAt f xs x j
in_front f zero xs x h = absurd h
in_front f (suc k) [] x h = absurd h
in_front f (suc k) (y ∷ ys) x (inl e) = (zero, omega arith, at_first f y x ys e)
in_front f (suc k) (y ∷ ys) x (inr h) =
    let r = in_front f k ys x h in (suc r.0, omega (arith, r.1), at_later f y x ys r.0 r.2)

pub in_back : {A : Type 0} (f : A → List ℕ) (k : ℕ) (xs : List A) (x : A) → In x (drop k xs)
    → (j : ℕ) × (k ≤ j) × IsAt f xs x j
in_back f zero [] x h = absurd h
in_back f zero (y ∷ ys) x (inl e) = (zero, omega arith, at_first f y x ys e)
in_back f zero (y ∷ ys) x (inr h) =
    let r = in_back f zero ys x h in (suc r.0, omega arith, at_later f y x ys r.0 r.2)
in_back f (suc k) [] x h = absurd h
in_back f (suc k) (y ∷ ys) x h =
    let r = in_back f k ys x h in (suc r.0, omega (arith, r.1), at_later f y x ys r.0 r.2)

-- what is at a place has its mark there
pub mark_there : {A : Type 0} (f : A → List ℕ) (xs : List A) (j : ℕ) (x : A) → slice_get xs j ≡ Some x → IsAt f xs x j
mark_there f [] j x e = absurd cc
mark_there f (y ∷ ys) zero x e = at_first f y x ys (sym (same_Some y x e))
mark_there f (y ∷ ys) (suc j) x e = at_later f y x ys j (mark_there f ys j x e)

-- the list around a place
pub around : {A : Type 0} (xs : List A) (k : ℕ) (x : A) → slice_get xs k ≡ Some x
    → take k xs ++ x ∷ drop (suc k) xs ≡ xs
around [] k x e = absurd cc
around (y ∷ ys) zero x e = ap (λ z. z ∷ ys) (sym (same_Some y x e))
around (y ∷ ys) (suc k) x e = ap (λ zs. y ∷ zs) (around ys k x e)

pub all_there : {A : Type 0} (P : A → Type 0) (xs : List A) (k : ℕ) (x : A) → AllByRecursion P xs
    → slice_get xs k ≡ Some x → P x
all_there P [] k x h e = absurd cc
all_there P (y ∷ ys) zero x h e = subst P (same_Some y x e) h.0
all_there P (y ∷ ys) (suc k) x h e = all_there P ys k x h.1 e

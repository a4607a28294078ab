-- Parts of lists whose elements are keys and rise.
use Rattle.std.proofs.Common.{◌≡◌, ℕ, zero, suc, ◌<◌, ◌⊎◌, List, [], ◌∷◌, ◌++◌, length, map, take, drop, get_or, refl}
use Rattle.std.proofs.Common.{sym, ap, inl, inr, arith}
use Rattle.std.specs.List.{AllByRecursion}
use Rattle.page_types.specs.Keys.{Rising}
use Rattle.core_state.specs.Log.{In}

pub all_front : {A : Type 0} (P : A → Type 0) (xs ys : List A) → AllByRecursion P (xs ++ ys) → AllByRecursion P xs
all_front P [] ys h = tt
all_front P (x ∷ xs) ys h = (h.0, all_front P xs ys h.1)

pub all_back : {A : Type 0} (P : A → Type 0) (xs ys : List A) → AllByRecursion P (xs ++ ys) → AllByRecursion P ys
all_back P [] ys h = h
all_back P (x ∷ xs) ys h = all_back P xs ys h.1

pub all_both : {A : Type 0} (P : A → Type 0) (xs ys : List A) → AllByRecursion P xs → AllByRecursion P ys
    → AllByRecursion P (xs ++ ys)
all_both P [] ys h k = k
all_both P (x ∷ xs) ys h k = (h.0, all_both P xs ys h.1 k)

pub rising_front : {A : Type 0} (R : A → A → Type 0) (xs ys : List A) → Rising R (xs ++ ys) → Rising R xs
rising_front R [] ys h = tt
rising_front R (x ∷ xs) ys h = (all_front (R x) xs ys h.0, rising_front R xs ys h.1)

pub rising_back : {A : Type 0} (R : A → A → Type 0) (xs ys : List A) → Rising R (xs ++ ys) → Rising R ys
rising_back R [] ys h = h
rising_back R (x ∷ xs) ys h = rising_back R xs ys h.1

pub take_of_map : {A B : Type 0} (f : A → B) (k : ℕ) (xs : List A) → map f (take k xs) ≡ take k (map f xs)
take_of_map f zero xs = refl
take_of_map f (suc k) [] = refl
take_of_map f (suc k) (x ∷ xs) = ap (λ ys. f x ∷ ys) (take_of_map f k xs)

pub drop_of_map : {A B : Type 0} (f : A → B) (k : ℕ) (xs : List A) → map f (drop k xs) ≡ drop k (map f xs)
drop_of_map f zero xs = refl
drop_of_map f (suc k) [] = refl
drop_of_map f (suc k) (x ∷ xs) = drop_of_map f k xs

-- what is read of a list, by a part of it
pub read_map : {A : Type 0} (f : A → List ℕ) (xs : List A) (k : ℕ) (x : A) → k < length xs → x ≡ get_or xs k x
    → get_or (map f xs) k [] ≡ f x
read_map f [] k x lt e = absurd (omega (arith, lt))
read_map f (y ∷ ys) zero x lt e = ap f (sym e)
read_map f (y ∷ ys) (suc k) x lt e = read_map f ys k x (omega (arith, lt)) e

pub in_front : {A : Type 0} (x : A) (xs ys : List A) → In x xs → In x (xs ++ ys)
in_front x [] ys h = absurd h
in_front x (y ∷ xs) ys (inl e) = inl e
in_front x (y ∷ xs) ys (inr h) = inr (in_front x xs ys h)

pub in_back : {A : Type 0} (x : A) (xs ys : List A) → In x ys → In x (xs ++ ys)
in_back x [] ys h = h
in_back x (y ∷ xs) ys h = inr (in_back x xs ys h)

pub in_either : {A : Type 0} (x : A) (xs ys : List A) → In x (xs ++ ys) → In x xs ⊎ In x ys
in_either x [] ys h = inr h
in_either x (y ∷ xs) ys (inl e) = inl (inl e)
in_either x (y ∷ xs) ys (inr h) = elim (in_either x xs ys h) [ inl f ↦ inl (inr f) | inr b ↦ inr b ]

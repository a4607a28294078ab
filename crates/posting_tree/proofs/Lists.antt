-- Lists at a place: what is there, before and after it.
use Rattle.std.proofs.Common.{◌≡◌, ◌≢◌, ℕ, zero, suc, ◌<◌, List, [], ◌∷◌, ◌++◌, length, take, drop, refl, sym, ap}
use Rattle.std.proofs.Common.{◌∙◌, inl, inr, add-one, arith}
use Rattle.std.specs.Prelude.{Some}
use Rattle.std.specs.List.{AllByRecursion, slice_get}
use Rattle.std.proofs.lemmas.List.{length-drop}
use Rattle.std.proofs.lemmas.Option.{same_Some}
use Rattle.page_types.specs.Keys.{Rising}
use Rattle.page_types.proofs.Cutting.{take_get}
use Rattle.core_state.specs.Log.{In}

-- ---- a place

pub there_is : {A : Type 0} (xs : List A) (k : ℕ) → k < length xs → (x : A) × (slice_get xs k ≡ Some x)
there_is [] k lt = absurd (omega (arith, lt))
there_is (x ∷ xs) zero lt = (x, refl)
there_is (x ∷ xs) (suc k) lt = there_is xs k (omega (arith, lt))

pub around : {A : Type 0} (xs : List A) (k : ℕ) (x : A) → slice_get xs k ≡ Some x
    → take k xs ++ x ∷ drop (suc k) xs ≡ xs
around [] k x e = absurd cc
around (y ∷ ys) zero x e = ap (λ z. z ∷ ys) (sym (same_Some y x e))
around (y ∷ ys) (suc k) x e = ap (λ zs. y ∷ zs) (around ys k x e)

pub take_one : {A : Type 0} (xs : List A) (k : ℕ) (x : A) → slice_get xs k ≡ Some x
    → take (suc k) xs ≡ take k xs ++ x ∷ []
take_one xs k x e = ap (λ n. take n xs) (sym (add-one k)) ∙ take_get xs k x e

pub in_front : {A : Type 0} (k : ℕ) (xs : List A) (x : A) → In x (take k xs)
    → (j : ℕ) × (j < k) × (slice_get xs j ≡ Some x)
in_front zero xs x on = absurd on
in_front (suc k) [] x on = absurd on
in_front (suc k) (y ∷ ys) x (inl e) = (zero, omega arith, ap Some (sym e))
in_front (suc k) (y ∷ ys) x (inr on) = let r = in_front k ys x on in (suc r.0, omega (arith, r.1), r.2)

pub in_place : {A : Type 0} (xs : List A) (x : A) → In x xs → (j : ℕ) × (slice_get xs j ≡ Some x)
in_place [] x on = absurd on
in_place (y ∷ ys) x (inl e) = (zero, ap Some (sym e))
in_place (y ∷ ys) x (inr on) = let r = in_place ys x on in (suc r.0, r.1)

pub there_in : {A : Type 0} (xs : List A) (k : ℕ) (x : A) → slice_get xs k ≡ Some x → In x xs
there_in [] k x e = absurd cc
there_in (y ∷ ys) zero x e = inl (sym (same_Some y x e))
there_in (y ∷ ys) (suc k) x e = inr (there_in ys k x e)

-- ---- some

pub not_none : {A : Type 0} (front : List A) (a : A) (back : List A) → front ++ a ∷ back ≢ []
not_none [] a back e = cc
not_none (f ∷ front) a back e = cc

pub some_length : {A : Type 0} (xs : List A) → xs ≢ [] → 0 < length xs
some_length [] some = absurd (some refl)
some_length (x ∷ xs) some = omega arith

pub some_take : {A : Type 0} (k : ℕ) (xs : List A) → 0 < k → k < length xs → take k xs ≢ []
some_take zero xs some lt e = absurd (omega (arith, some))
some_take (suc k) [] some lt e = absurd (omega (arith, lt))
some_take (suc k) (x ∷ xs) some lt e = absurd cc

pub some_drop : {A : Type 0} (k : ℕ) (xs : List A) → k < length xs → drop k xs ≢ []
some_drop k xs lt e = absurd (omega (arith, length-drop k xs, ap length e, lt))

-- ---- all

pub all_here : {A : Type 0} (P : A → Type 0) (front back : List A) (c : A) → AllByRecursion P (front ++ c ∷ back) → P c
all_here P [] back c h = h.0
all_here P (f ∷ front) back c h = all_here P front back c h.1

pub all_two : {A : Type 0} (P : A → Type 0) (front back : List A) (c a d : A) → P a → P d
    → AllByRecursion P (front ++ c ∷ back) → AllByRecursion P (front ++ a ∷ d ∷ back)
all_two P [] back c a d pa pd h = (pa, (pd, h.1))
all_two P (f ∷ front) back c a d pa pd h = (h.0, all_two P front back c a d pa pd h.1)

pub all_take : {A : Type 0} (P : A → Type 0) (n : ℕ) (xs : List A) → AllByRecursion P xs → AllByRecursion P (take n xs)
all_take P zero xs h = tt
all_take P (suc n) [] h = tt
all_take P (suc n) (x ∷ xs) h = (h.0, all_take P n xs h.1)

pub all_drop : {A : Type 0} (P : A → Type 0) (n : ℕ) (xs : List A) → AllByRecursion P xs → AllByRecursion P (drop n xs)
all_drop P zero xs h = h
all_drop P (suc n) [] h = tt
all_drop P (suc n) (x ∷ xs) h = all_drop P n xs h.1

-- ---- lists that rise

pub rising_take : {A : Type 0} (R : A → A → Type 0) (n : ℕ) (xs : List A) → Rising R xs → Rising R (take n xs)
rising_take R zero xs h = tt
rising_take R (suc n) [] h = tt
rising_take R (suc n) (x ∷ xs) h = (all_take (R x) n xs h.0, rising_take R n xs h.1)

pub rising_drop : {A : Type 0} (R : A → A → Type 0) (n : ℕ) (xs : List A) → Rising R xs → Rising R (drop n xs)
rising_drop R zero xs h = h
rising_drop R (suc n) [] h = tt
rising_drop R (suc n) (x ∷ xs) h = rising_drop R n xs h.1

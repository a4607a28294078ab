-- What is in lists.
use Rattle.std.proofs.Common.{◌≡◌, ◌≢◌, ℕ, List, [], ◌∷◌, ◌++◌, map, refl, ap, subst, inl, inr}
use Rattle.core_state.specs.Log.{In}
use Rattle.core_state.proofs.PageLists.{in_back}

pub in_middle : {A : Type 0} (xs : List A) (y : A) (ys : List A) → In y (xs ++ y ∷ ys)
in_middle xs y ys = in_back y xs (y ∷ ys) (inl refl)

pub in_map : {A B : Type 0} (f : A → B) (x : A) (xs : List A) → In x xs → In (f x) (map f xs)
in_map f x [] m = absurd m
in_map f x (y ∷ ys) (inl e) = inl (ap f e)
in_map f x (y ∷ ys) (inr m) = inr (in_map f x ys m)

pub of_map : {A B : Type 0} (f : A → B) (z : B) (xs : List A) → In z (map f xs) → (x : A) × In x xs × (z ≡ f x)
of_map f z [] m = absurd m
of_map f z (y ∷ ys) (inl e) = (y, inl refl, e)
of_map f z (y ∷ ys) (inr m) = let r = of_map f z ys m in (r.0, inr r.1, r.2)

pub some_map : {A B : Type 0} (f : A → B) (xs : List A) → xs ≢ [] → map f xs ≢ []
some_map f [] n e = n refl
some_map f (x ∷ xs) n e = cc

-- a page that is none of these few is not on the list of them
pub off_one : (x a : ℕ) → x ≢ a → (cs : List ℕ) → cs ≡ a ∷ [] → In x cs → ⊥
off_one x a n cs e m = elim (subst (In x) e m) [ inl f ↦ n f | inr f ↦ f ]

pub off_two : (x a b : ℕ) → x ≢ a → x ≢ b → (cs : List ℕ) → cs ≡ a ∷ b ∷ [] → In x cs → ⊥
off_two x a b n o cs e m = elim (subst (In x) e m) [ inl f ↦ n f | inr (inl f) ↦ o f | inr (inr f) ↦ f ]

pub off_three : (x a b c : ℕ) → x ≢ a → x ≢ b → x ≢ c → (cs : List ℕ) → cs ≡ a ∷ b ∷ c ∷ [] → In x cs → ⊥
off_three x a b c n o k cs e m = elim (subst (In x) e m) [
  | inl f ↦ n f
  | inr (inl f) ↦ o f
  | inr (inr (inl f)) ↦ k f
  | inr (inr (inr f)) ↦ f
]

-- Elements of lists.
use Rattle.std.proofs.Common.{◌≡◌, ℕ, zero, suc, get_or, ◌<◌, Bool, true, false, ◌||◌, List, [], ◌∷◌, length, map, ◌⊎◌}
use Rattle.std.proofs.Common.{inl, inr, refl, sym, subst, arith}
use Rattle.std.specs.Prelude.{Contains}
use Rattle.std.specs.List.{list_any}
use Rattle.std.proofs.lemmas.List.Elements.{Contains-append_right, Contains-append_cases}
use Rattle.std.proofs.lemmas.Bool.{or_cases}

pub Contains-here : {X : Type 0} (x : X) (xs : List X) → Contains (x ∷ xs) x
Contains-here x xs = (0, omega arith, refl)

pub Contains-there : {X : Type 0} (x y : X) (xs : List X) → Contains xs y → Contains (x ∷ xs) y
Contains-there x y xs h = Contains-append_right (x ∷ []) xs y h

pub Contains-none : {X : Type 0} (y : X) → Contains [] y → ⊥
Contains-none y h = omega (arith, h.1)

one_at : {X : Type 0} (x y : X) (k : ℕ) → k < 1 → Rattle.std.specs.List.slice_index_or (x ∷ []) k y ≡ y → y ≡ x
one_at x y zero h e = sym e
one_at x y (suc k) h e = absurd (omega arith)

pub Contains-one : {X : Type 0} (x y : X) → Contains (x ∷ []) y → y ≡ x
Contains-one x y (k, h, e) = one_at x y k h e

pub Contains-cases : {X : Type 0} (x y : X) (xs : List X) → Contains (x ∷ xs) y → (y ≡ x) ⊎ Contains xs y
Contains-cases x y xs h =
    elim (Contains-append_cases (x ∷ []) xs y h) [ inl a ↦ inl (Contains-one x y a) | inr b ↦ inr b ]

pub Contains-map : {X Y : Type 0} (f : X → Y) (xs : List X) (x : X) → Contains xs x → Contains (map f xs) (f x)
Contains-map f [] x h = absurd (Contains-none x h)
Contains-map f (y ∷ xs) x h = elim (Contains-cases y x xs h) [
  | inl e ↦ subst (λ z. Contains (map f (z ∷ xs)) (f x)) e (Contains-here (f x) (map f xs))
  | inr k ↦ Contains-there (f y) (f x) (map f xs) (Contains-map f xs x k)
]

-- what passes a test is there
pub record Passes {X : Type 0} (test : X → Bool) (xs : List X) : Type 0 where
  pub element : X
  pub there : Contains xs element
  pub passes : test element ≡ true

pub passes_in : {X : Type 0} (test : X → Bool) (xs : List X) → list_any test xs ≡ true → Passes test xs
passes_in test [] h = absurd (let x : ⊥ = cc in x)
passes_in test (x ∷ xs) h = elim (or_cases (test x) (list_any test xs) h) [
  | inl a ↦ record { element = x; there = Contains-here x xs; passes = a }
  | inr b ↦ let r = passes_in test xs b in
      record { element = r.element; there = Contains-there x r.element xs r.there; passes = r.passes }
]

pub or_right : (a b : Bool) → b ≡ true → (a || b) ≡ true
or_right true b e = refl
or_right false b e = e

-- an element that passes
pub passes_at : {X : Type 0} (test : X → Bool) (xs : List X) (k : ℕ) (d : X) → k < length xs
    → test (get_or xs k d) ≡ true → list_any test xs ≡ true
passes_at test [] k d h e = absurd (omega arith)
passes_at test (x ∷ xs) zero d h e = rw e refl
passes_at test (x ∷ xs) (suc k) d h e = or_right (test x) (list_any test xs) (passes_at test xs k d (omega arith) e)

-- where the elements of a made list come from
pub record MapsTo {X Y : Type 0} (f : X → Y) (xs : List X) (y : Y) : Type 0 where
  pub element : X
  pub there : Contains xs element
  pub is : f element ≡ y

pub from_map : {X Y : Type 0} (f : X → Y) (xs : List X) (y : Y) → Contains (map f xs) y → MapsTo f xs y
from_map f [] y h = absurd (Contains-none y h)
from_map f (x ∷ xs) y h = elim (Contains-cases (f x) y (map f xs) h) [
  | inl e ↦ record { element = x; there = Contains-here x xs; is = sym e }
  | inr k ↦ let r = from_map f xs y k in
      record { element = r.element; there = Contains-there x r.element xs r.there; is = r.is }
]

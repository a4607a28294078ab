-- What lists contain.
use Rattle.std.proofs.Common.{◌≡◌, ◌≢◌, ℕ, zero, suc, get_or, ◌+◌, ◌-◌, ◌<◌, ◌≤◌, Bool, true, false, ◌&&◌, ◌||◌, List}
use Rattle.std.proofs.Common.{[], ◌∷◌, length, take, drop, map, ◌⊎◌, inl, inr, refl, sym, ap, subst, ◌∙◌, arith}
use Rattle.std.specs.Prelude.{Contains, All, filter}
use Rattle.std.specs.List.{flat_map, list_any, list_all}
use Rattle.std.proofs.lemmas.List.Elements.{Contains-append_left, Contains-append_right, Contains-append_cases}
use Rattle.std.proofs.lemmas.List.Elements.{Contains-get_or, All-nil, All-head, All-tail, All-append, All-from_get_or}
use Rattle.std.proofs.lemmas.List.Folds.{list_any_none, list_any-append}
use Rattle.std.proofs.lemmas.List.{get_or-take, get_or-drop, length-take, length-drop}
use Rattle.ts_match.specs.Laws.Elements.{Contains-here, Contains-there, Contains-none, Contains-cases, passes_at}

pub Contains-flat_map : {X Y : Type 0} (f : X → List Y) (xs : List X) (x : X) (y : Y) → Contains xs x → Contains (f x) y
    → Contains (flat_map f xs) y
Contains-flat_map f [] x y h k = absurd (Contains-none x h)
Contains-flat_map f (z ∷ xs) x y h k = elim (Contains-cases z x xs h) [
  | inl e ↦ Contains-append_left (f z) (flat_map f xs) y (subst (λ w. Contains (f w) y) e k)
  | inr r ↦ Contains-append_right (f z) (flat_map f xs) y (Contains-flat_map f xs x y r k)
]

pub All-flat_map : {X Y : Type 0} (P : Y → Type 0) (f : X → List Y) (xs : List X) → All (λ x. All P (f x)) xs
    → All P (flat_map f xs)
All-flat_map P f [] h = All-nil P
All-flat_map P f (x ∷ xs) h = All-append P (f x) (flat_map f xs) (All-head (λ x. All P (f x)) x xs h)
    (All-flat_map P f xs (All-tail (λ x. All P (f x)) x xs h))

or_no : (b : Bool) → (b || false) ≡ b
or_no true = refl
or_no false = refl

and_no : (b : Bool) → (b && false) ≡ false
and_no true = refl
and_no false = refl

pub any_agree : {X : Type 0} (p q : X → Bool) (xs : List X) → ((x : X) → p x ≡ q x) → list_any p xs ≡ list_any q xs
any_agree p q [] h = refl
any_agree p q (x ∷ xs) h = rw (h x, any_agree p q xs h) refl

pub any_flat : {X Y : Type 0} (test : Y → Bool) (f : X → List Y) (xs : List X)
    → list_any test (flat_map f xs) ≡ list_any (λ x. list_any test (f x)) xs
any_flat test f [] = refl
any_flat test f (x ∷ xs) =
    list_any-append test (f x) (flat_map f xs) ∙ ap (λ b. list_any test (f x) || b) (any_flat test f xs)

filter_step : {X : Type 0} (p test : X → Bool) (x : X) (xs : List X) (b : Bool) → p x ≡ b
    → list_any test (filter p xs) ≡ list_any (λ y. p y && test y) xs
    → list_any test (filter p (x ∷ xs)) ≡ list_any (λ y. p y && test y) (x ∷ xs)
filter_step p test x xs true e h = rw e (ap (λ b. test x || b) h)
filter_step p test x xs false e h = rw e h

pub any_filter : {X : Type 0} (p test : X → Bool) (xs : List X)
    → list_any test (filter p xs) ≡ list_any (λ x. p x && test x) xs
any_filter p test [] = refl
any_filter p test (x ∷ xs) = filter_step p test x xs (p x) refl (any_filter p test xs)

pub any_map : {X Y : Type 0} (test : Y → Bool) (f : X → Y) (xs : List X)
    → list_any test (map f xs) ≡ list_any (λ x. test (f x)) xs
any_map test f [] = refl
any_map test f (x ∷ xs) = ap (λ b. test (f x) || b) (any_map test f xs)

-- one element alone can pass
pub only_at : {X : Type 0} (test : X → Bool) (xs : List X) (m : ℕ) (d : X) → m < length xs
    → ((k : ℕ) → k < length xs → k ≢ m → test (get_or xs k d) ≡ false) → list_any test xs ≡ test (get_or xs m d)
only_at test [] m d h n = absurd (omega arith)
only_at test (x ∷ xs) zero d h n =
    let none : list_any test xs ≡ false = list_any_none test xs
    (All-from_get_or (λ y. test y ≡ false) xs d (λ i l. n (suc i) (omega arith) (omega arith))) in
    rw none (or_no (test x))
only_at test (x ∷ xs) (suc m) d h n =
    let first : test x ≡ false = n 0 (omega arith) (omega arith) in
    rw first (only_at test xs m d (omega arith) (λ k l e. n (suc k) (omega arith) (omega arith)))

-- elements that pass side by side
pub passing_part : {X : Type 0} (test : X → Bool) (xs : List X) (a n : ℕ) → a + n ≤ length xs
    → ((k : ℕ) (d : X) → k < a → test (get_or xs k d) ≡ false)
    → ((k : ℕ) (d : X) → a ≤ k → k < a + n → test (get_or xs k d) ≡ true)
    → ((k : ℕ) (d : X) → a + n ≤ k → k < length xs → test (get_or xs k d) ≡ false) → filter test xs ≡ take n (drop a xs)
passing_part test [] zero zero w f t g = refl
passing_part test [] zero (suc n) w f t g = absurd (omega arith)
passing_part test [] (suc a) n w f t g = absurd (omega arith)
passing_part test (x ∷ xs) (suc a) n w f t g =
    let first : test x ≡ false = f 0 x (omega arith) in
    rw first (passing_part test xs a n (omega arith) (λ k d l. f (suc k) d (omega arith))
    (λ k d l m. t (suc k) d (omega arith) (omega arith)) (λ k d l m. g (suc k) d (omega arith) (omega arith)))
passing_part test (x ∷ xs) zero (suc n) w f t g =
    let first : test x ≡ true = t 0 x (omega arith) (omega arith) in
    rw first (ap (λ l. x ∷ l) (passing_part test xs 0 n (omega arith) (λ k d l. absurd (omega arith))
    (λ k d l m. t (suc k) d (omega arith) (omega arith)) (λ k d l m. g (suc k) d (omega arith) (omega arith))))
passing_part test (x ∷ xs) zero zero w f t g =
    let first : test x ≡ false = g 0 x (omega arith) (omega arith) in
    rw first (passing_part test xs 0 0 (omega arith) (λ k d l. absurd (omega arith)) (λ k d l m. absurd (omega arith))
    (λ k d l m. g (suc k) d (omega arith) (omega arith)))

-- an index of a part
part_at : {X : Type 0} (xs : List X) (a b i : ℕ) (d : X) → i < b - a
    → get_or (take (b - a) (drop a xs)) i d ≡ get_or xs (a + i) d
part_at xs a b i d h = get_or-take (b - a) (drop a xs) i d h ∙ get_or-drop a xs i d

pub part_length : {X : Type 0} (xs : List X) (a b : ℕ) → b ≤ length xs → length (take (b - a) (drop a xs)) ≡ b - a
part_length xs a b h = simp (length-take, length-drop) (omega arith)

pub none_in_part : {X : Type 0} (test : X → Bool) (xs : List X) (a b : ℕ) → b ≤ length xs → ((k : ℕ) (d : X) → a ≤ k
    → k < b → test (get_or xs k d) ≡ false) → list_any test (take (b - a) (drop a xs)) ≡ false
none_in_part test xs a b w n = list_any_none test (take (b - a) (drop a xs)) (λ i d l.
    let h : i < b - a = subst (λ m. i < m) (part_length xs a b w) l in
    ap test (part_at xs a b i d h) ∙ n (a + i) d (omega arith) (omega arith))

-- an element of a part
pub in_part : {X : Type 0} (xs : List X) (a b k : ℕ) (d : X) → b ≤ length xs → a ≤ k → k < b
    → Contains (take (b - a) (drop a xs)) (get_or xs k d)
in_part xs a b k d w l m =
    let e : a + (k - a) ≡ k = omega arith in
    let f : get_or (take (b - a) (drop a xs)) (k - a) d ≡ get_or xs k d =
    part_at xs a b (k - a) d (omega arith) ∙ ap (λ j. get_or xs j d) e in
    subst (λ x. Contains (take (b - a) (drop a xs)) x) f
    (Contains-get_or (take (b - a) (drop a xs)) (k - a) d (let n = part_length xs a b w in omega arith))

pub some_in_part : {X : Type 0} (test : X → Bool) (xs : List X) (a b k : ℕ) (d : X) → b ≤ length xs → a ≤ k → k < b
    → test (get_or xs k d) ≡ true → list_any test (take (b - a) (drop a xs)) ≡ true
some_in_part test xs a b k d w l m h =
    let e : a + (k - a) ≡ k = omega arith in
    let f : get_or (take (b - a) (drop a xs)) (k - a) d ≡ get_or xs k d =
    part_at xs a b (k - a) d (omega arith) ∙ ap (λ j. get_or xs j d) e in
    passes_at test (take (b - a) (drop a xs)) (k - a) d (let n = part_length xs a b w in omega arith) (ap test f ∙ h)

filter_cases : {X : Type 0} (p : X → Bool) (x y : X) (xs : List X) (b : Bool) → p x ≡ b → Contains (filter p (x ∷ xs)) y
    → (y ≡ x) ⊎ Contains (filter p xs) y
filter_cases p x y xs true e h = Contains-cases x y (filter p xs) (rw e at h)
filter_cases p x y xs false e h = inr (rw e at h)

pub from_filter : {X : Type 0} (p : X → Bool) (xs : List X) (y : X) → Contains (filter p xs) y → Contains xs y
from_filter p [] y h = h
from_filter p (x ∷ xs) y h = elim (filter_cases p x y xs (p x) refl h) [
  | inl e ↦ subst (λ z. Contains (z ∷ xs) y) e (Contains-here y xs)
  | inr k ↦ Contains-there x y xs (from_filter p xs y k)
]

pub record FlatFrom {X Y : Type 0} (f : X → List Y) (xs : List X) (y : Y) : Type 0 where
  pub element : X
  pub there : Contains xs element
  pub in_it : Contains (f element) y

pub from_flat_map : {X Y : Type 0} (f : X → List Y) (xs : List X) (y : Y) → Contains (flat_map f xs) y → FlatFrom f xs y
from_flat_map f [] y h = absurd (Contains-none y h)
from_flat_map f (x ∷ xs) y h = elim (Contains-append_cases (f x) (flat_map f xs) y h) [
  | inl a ↦ record { element = x; there = Contains-here x xs; in_it = a }
  | inr k ↦ let r = from_flat_map f xs y k in
      record { element = r.element; there = Contains-there x r.element xs r.there; in_it = r.in_it }
]

pub record InPart {X : Type 0} (xs : List X) (a b : ℕ) (x : X) : Type 0 where
  pub index : ℕ
  pub from : a ≤ index
  pub below : index < b
  pub is : get_or xs index x ≡ x

pub from_part : {X : Type 0} (xs : List X) (a b : ℕ) (x : X) → b ≤ length xs → Contains (take (b - a) (drop a xs)) x
    → InPart xs a b x
from_part xs a b x w h =
    let l : h.0 < b - a = let e = part_length xs a b w in let n = h.1 in omega arith in record {
      index = a + h.0;
      from = omega arith;
      below = omega arith;
      is = sym (part_at xs a b h.0 x l) ∙ h.2;
    }

pub all_pass : {X : Type 0} (test : X → Bool) (xs : List X)
    → ((k : ℕ) (d : X) → k < length xs → test (get_or xs k d) ≡ true) → list_all test xs ≡ true
all_pass test [] h = refl
all_pass test (x ∷ xs) h = rw (h 0 x (omega arith)) (all_pass test xs (λ k d l. h (suc k) d (omega arith)))

pub one_fails : {X : Type 0} (test : X → Bool) (xs : List X) (k : ℕ) (d : X) → k < length xs
    → test (get_or xs k d) ≡ false → list_all test xs ≡ false
one_fails test [] k d l h = absurd (omega arith)
one_fails test (x ∷ xs) zero d l h = rw h refl
one_fails test (x ∷ xs) (suc k) d l h = rw (one_fails test xs k d (omega arith) h) (and_no (test x))

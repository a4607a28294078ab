-- A search among keys that rise, step by step, and what it says of a key that is asked.
use Rattle.std.proofs.Common.{◌≡◌, ◌≢◌, ◌⊎◌, ℕ, zero, suc, ◌+◌, ◌<◌, ◌≤◌, Bool, true, false, ◌&&◌, ltb, nat_eq, List}
use Rattle.std.proofs.Common.{[], ◌∷◌, length, get_or, take, refl}
use Rattle.std.proofs.Common.{sym, ap, subst, ◌∙◌, inl, inr, arith, nat_cmp, Less, Equal, Greater, Ordering}
use Rattle.std.specs.List.{list_any, AllByRecursion}
use Rattle.std.specs.Ordering.{ordering_reverse, is_lt}
use Rattle.std.specs.Cmp.Lexicographic.{slice_cmp, pointwise}
use Rattle.std.proofs.lemmas.Bool.Decides.{nat_tests}
use Rattle.std.proofs.lemmas.Cmp.{nat_list_cmp_total}
use Rattle.page_types.specs.Keys.{KeyLess, Rising}
use Rattle.core_state.specs.Log.{In}
use Rattle.core_state.proofs.Trees.Orders.{key_order}
use Rattle.core_moments.specs.Walk.{begins}
use Rattle.core_moments.specs.Judging.{fits_asked}
use Rattle.core_moments.proofs.Walks.{any_true, any_in}
use Rattle.core_moments.proofs.Words.{and_true, begins_at_most, begins_both, begins_between}
use Rattle.gin_hits.specs.Rows.{asked_for}
use Rattle.gin_hits.specs.Inner.Searching.{IsBetween}

before_or_at : (j m : ℕ) → j < m + 1 → (j < m) ⊎ (j ≡ m)
before_or_at j m lt = grind arith

three_ways : (j p : ℕ) → (j < p) ⊎ ((j ≡ p) ⊎ (p < j))
three_ways j p = grind arith

all_at : {A : Type 0} (P : A → Type 0) (xs : List A) (d : A) → AllByRecursion P xs → (j : ℕ) → j < length xs
    → P (get_or xs j d)
all_at P [] d h j lt = absurd (omega (arith, lt))
all_at P (x ∷ xs) d h zero lt = h.0
all_at P (x ∷ xs) d h (suc j) lt = all_at P xs d h.1 j (omega (arith, lt))

pub rising_at : (xs : List (List ℕ)) → Rising KeyLess xs → (i j : ℕ) → i < j → j < length xs
    → KeyLess (get_or xs i []) (get_or xs j [])
rising_at [] h i j lt within = absurd (omega (arith, within))
rising_at (x ∷ xs) h i zero lt within = absurd (omega (arith, lt))
rising_at (x ∷ xs) h zero (suc j) lt within = all_at (KeyLess x) xs [] h.0 j (omega (arith, within))
rising_at (x ∷ xs) h (suc i) (suc j) lt within = rising_at xs h.1 i j (omega (arith, lt)) (omega (arith, within))

-- what the answer of a comparison says
pub less_of : (o : Ordering) → is_lt o ≡ true → o ≡ Less
less_of Less e = refl
less_of Equal e = absurd (let z : ⊥ = cc in z)
less_of Greater e = absurd (let z : ⊥ = cc in z)

pub not_less : (o : Ordering) → is_lt o ≡ false → o ≡ Less → ⊥
not_less Less e f = let z : ⊥ = cc in z
not_less Equal e f = let z : ⊥ = cc in z
not_less Greater e f = let z : ⊥ = cc in z

-- ── the search ──

pub between_starts : (key : List ℕ) (all : List (List ℕ)) → IsBetween key all 0 (length all)
between_starts key all = record {
  ordered = omega arith;
  within = omega arith;
  below = λ j lt. absurd (omega (arith, lt));
  above = λ j le lt. absurd (omega (arith, le, lt));
}

pub between_up : (key : List ℕ) (all : List (List ℕ)) (low high m : ℕ) → Rising KeyLess all
    → IsBetween key all low high → m < high → KeyLess (get_or all m []) key → IsBetween key all (m + 1) high
between_up key all low high m rises w lt here =
    let below = λ (j : ℕ) (before : j < m + 1).
    elim (before_or_at j m before) as (λ _. KeyLess (get_or all j []) key) [
      | inl less ↦
          key_order.trans (get_or all j []) (get_or all m []) key
          (rising_at all rises j m less (omega (arith, lt, w.within))) here
      | inr same ↦ subst (λ (i : ℕ). KeyLess (get_or all i []) key) (sym same) here
    ] in
    record { ordered = omega (arith, lt); within = w.within; below = below; above = w.above }

pub between_down : (key : List ℕ) (all : List (List ℕ)) (low high m : ℕ) → Rising KeyLess all
    → IsBetween key all low high → low ≤ m → m < high → (KeyLess (get_or all m []) key → ⊥) → IsBetween key all low m
between_down key all low high m rises w le lt not_so =
    let above = λ (j : ℕ) (from : m ≤ j) (within : j < length all) (b : KeyLess (get_or all j []) key).
    elim (before_or_at m j (omega (arith, from))) as (λ _. ⊥) [
      | inl less ↦
          not_so (key_order.trans (get_or all m []) (get_or all j []) key (rising_at all rises m j less within) b)
      | inr same ↦ not_so (subst (λ (i : ℕ). KeyLess (get_or all i []) key) (sym same) b)
    ] in
    record { ordered = le; within = omega (arith, lt, w.within); below = w.below; above = above }

-- ── a key that is asked ──

place_of : (x : List ℕ) (xs : List (List ℕ)) → In x xs → (j : ℕ) × (j < length xs) × (get_or xs j [] ≡ x)
place_of x [] i = absurd i
place_of x (y ∷ ys) (inl e) = (zero, omega arith, sym e)
place_of x (y ∷ ys) (inr i) = let f = place_of x ys i in (suc f.0, omega (arith, f.1), f.2)

in_place : (xs : List (List ℕ)) (j : ℕ) → j < length xs → In (get_or xs j []) xs
in_place [] j lt = absurd (omega (arith, lt))
in_place (x ∷ xs) zero lt = inl refl
in_place (x ∷ xs) (suc j) lt = inr (in_place xs j (omega (arith, lt)))

pub not_greater : (a b : List ℕ) → (KeyLess b a → ⊥) → slice_cmp nat_cmp a b ≢ Greater
not_greater a b off g = off (nat_list_cmp_total.antisymm b a ∙ ap ordering_reverse g)

pub begins_fits : (key k : List ℕ) (prefix : Bool) → fits_asked (asked_for key prefix) k ≡ true → begins key k ≡ true
begins_fits key k true e = e
begins_fits key k false e = (and_true (begins key k) (begins k key) e).0

module _ (key : List ℕ) (all : List (List ℕ)) (p : ℕ) (rises : Rising KeyLess all) (w : IsBetween key all p p) where
  pub not_before : (j : ℕ) → j < p → begins key (get_or all j []) ≡ true → ⊥
  not_before j lt b =
      let less = w.below j lt in
      elim (begins_at_most key (get_or all j []) b) [
        | inl l ↦ key_order.irrefl key (key_order.trans key (get_or all j []) key l less)
        | inr e ↦ key_order.irrefl key (subst (λ (k : List ℕ). KeyLess k key) (sym e) less)
      ]

  fits_first : (prefix : Bool) (j : ℕ) → p < j → j < length all
      → fits_asked (asked_for key prefix) (get_or all j []) ≡ true
      → fits_asked (asked_for key prefix) (get_or all p []) ≡ true
  fits_first true j lt within e =
      begins_between key (get_or all p []) (get_or all j []) e
      (not_greater key (get_or all p []) (w.above p (omega arith) (omega (arith, lt, within))))
      (rising_at all rises p j lt within)
  fits_first false j lt within e =
      let both = and_true (begins key (get_or all j [])) (begins (get_or all j []) key) e in
      let same = begins_both key (get_or all j []) both.0 both.1 in
      absurd (w.above p (omega arith) (omega (arith, lt, within))
      (subst (KeyLess (get_or all p [])) (sym same) (rising_at all rises p j lt within)))

  fits_at : (prefix : Bool) (j : ℕ) → j < length all → fits_asked (asked_for key prefix) (get_or all j []) ≡ true
      → (p < length all) × (fits_asked (asked_for key prefix) (get_or all p []) ≡ true)
  fits_at prefix j within e = elim (three_ways j p) [
    | inl less ↦ absurd (not_before j less (begins_fits key (get_or all j []) prefix e))
    | inr (inl same) ↦ (
      omega (arith, same, within),
      subst (λ (i : ℕ). fits_asked (asked_for key prefix) (get_or all i []) ≡ true) same e,
    )
    | inr (inr more) ↦ (omega (arith, more, within), fits_first prefix j more within e)
  ]

  -- some key fits exactly where the one at the place does
  pub some_fits : (prefix : Bool) → list_any (fits_asked (asked_for key prefix)) all ≡ true
      → (p < length all) × (fits_asked (asked_for key prefix) (get_or all p []) ≡ true)
  some_fits prefix e =
      let f = any_in (fits_asked (asked_for key prefix)) all e in
      let j = place_of f.0 all f.1 in
      fits_at prefix j.0 j.1 (subst (λ (k : List ℕ). fits_asked (asked_for key prefix) k ≡ true) (sym j.2) f.2)

  pub fits_some : (prefix : Bool) → p < length all → fits_asked (asked_for key prefix) (get_or all p []) ≡ true
      → list_any (fits_asked (asked_for key prefix)) all ≡ true
  fits_some prefix lt e = any_true (fits_asked (asked_for key prefix)) (get_or all p []) all (in_place all p lt) e

-- ── answers that are the same ──

pub same_bool : (a b : Bool) → (a ≡ true → b ≡ true) → (b ≡ true → a ≡ true) → a ≡ b
same_bool true b f g = sym (f refl)
same_bool false true f g = g refl
same_bool false false f g = refl

pub not_below : (p n : ℕ) → n ≤ p → ltb p n ≡ false
not_below p n le = grind (arith, nat_tests)

pub false_of : (b : Bool) → (b ≡ true → ⊥) → b ≡ false
false_of true off = absurd (off refl)
false_of false off = refl

-- ── a key against one that is asked ──

pub begins_tested : (p s : List ℕ) → pointwise nat_eq p (take (length p) s) ≡ begins p s
begins_tested [] s = refl
begins_tested (a ∷ p) [] = refl
begins_tested (a ∷ p) (b ∷ s) = ap (λ (t : Bool). nat_eq a b && t) (begins_tested p s)

both_and : (a b c d : Bool) → a ≡ d → (a && (b && c)) ≡ ((d && b) && (a && c))
both_and true b c d e = ap (λ (t : Bool). (t && b) && c) e
both_and false b c d e = ap (λ (t : Bool). (t && b) && false) e

nat_eq_back : (a b : ℕ) → nat_eq a b ≡ nat_eq b a
nat_eq_back a b = grind arith

pub same_tested : (k x : List ℕ) → pointwise nat_eq k x ≡ (begins x k && begins k x)
same_tested [] [] = refl
same_tested [] (y ∷ ys) = refl
same_tested (x ∷ xs) [] = refl
same_tested (x ∷ xs) (y ∷ ys) =
    ap (λ (t : Bool). nat_eq x y && t) (same_tested xs ys)
    ∙ both_and (nat_eq x y) (begins ys xs) (begins xs ys) (nat_eq y x) (nat_eq_back x y)

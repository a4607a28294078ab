-- Byte order, byte by byte.
use Rattle.std.proofs.Common.{◌≡◌, ◌≢◌, ℕ, ◌+◌, ◌<◌, ◌≤◌, ◌↔◌, min, nat_lt, IsTrue, List, [], ◌∷◌, length, get_or, drop}
use Rattle.std.proofs.Common.{inl, inr, refl, sym, ap, ◌∙◌, arith, add-one, drop-cons, length-drop}
use Rattle.std.specs.Ordering.{nat_cmp, ordering_then}
use Rattle.std.specs.declared.cmp.Ordering.TheVariants.{Less, Equal, Greater}
use Rattle.std.specs.Cmp.Lexicographic.{slice_cmp}
use Rattle.std.proofs.lemmas.Bool.{cases_lt}
use Rattle.std.proofs.lemmas.Bool.Decides.{nat_tests}
use Rattle.std.proofs.lemmas.List.{drop_all}
use Rattle.ts_base.specs.Lexemes.{IsBefore}

cmp_less : (x y : ℕ) → x < y → nat_cmp x y ≡ Less
cmp_less x y lt = grind (arith, nat_tests)

cmp_same : (x : ℕ) → nat_cmp x x ≡ Equal
cmp_same x = grind (arith, nat_tests)

cmp_more : (x y : ℕ) → y < x → nat_cmp x y ≡ Greater
cmp_more x y lt = grind (arith, nat_tests)

-- the bytes before the place i are the same in both lists
abbrev pub goes_on : List ℕ → List ℕ → ℕ → Type 0
goes_on a b i = slice_cmp nat_cmp a b ≡ slice_cmp nat_cmp (drop i a) (drop i b)

module _ (a b : List ℕ) (i : ℕ) (la : i < length a) (lb : i < length b) (on : goes_on a b i) where
  cut : slice_cmp nat_cmp a b
      ≡ ordering_then (nat_cmp (get_or a i 0) (get_or b i 0)) (slice_cmp nat_cmp (drop (i + 1) a) (drop (i + 1) b))
  cut =
      let p : drop i a ≡ get_or a i 0 ∷ drop (i + 1) a = rw (add-one, drop-cons a i 0) in
      let q : drop i b ≡ get_or b i 0 ∷ drop (i + 1) b = rw (add-one, drop-cons b i 0) in
      on ∙ (λ t. slice_cmp nat_cmp (p t) (q t))

  pub on_same : get_or a i 0 ≡ get_or b i 0 → goes_on a b (i + 1)
  on_same e =
      cut ∙ ap (λ o. ordering_then o (slice_cmp nat_cmp (drop (i + 1) a) (drop (i + 1) b)))
      (ap (nat_cmp (get_or a i 0)) (sym e) ∙ cmp_same (get_or a i 0))

  pub before_here : get_or a i 0 < get_or b i 0 → IsBefore a b
  before_here lt = cut ∙ ap (λ o. ordering_then o (slice_cmp nat_cmp (drop (i + 1) a) (drop (i + 1) b)))
      (cmp_less (get_or a i 0) (get_or b i 0) lt)

  pub behind_here : get_or b i 0 < get_or a i 0 → ¬ IsBefore a b
  behind_here lt h =
      let g : slice_cmp nat_cmp a b ≡ Greater = cut ∙ ap (λ o. ordering_then o
      (slice_cmp nat_cmp (drop (i + 1) a) (drop (i + 1) b))) (cmp_more (get_or a i 0) (get_or b i 0) lt) in
      let k : Less ≡ Greater = sym h ∙ g in
      absurd (cc)

less_told : (x y : ℕ) → IsTrue (nat_lt x y) → x < y
less_told x y h = grind (arith, nat_tests)

told_less : (x y : ℕ) → x < y → IsTrue (nat_lt x y)
told_less x y h = grind (arith, nat_tests)

-- the first bytes that differ decide
pub told_here : (a b : List ℕ) (i : ℕ) → i < length a → i < length b → goes_on a b i → get_or a i 0 ≢ get_or b i 0
    → IsTrue (nat_lt (get_or a i 0) (get_or b i 0)) ↔ IsBefore a b
told_here a b i la lb on ne = (
  λ yes. before_here a b i la lb on (less_told (get_or a i 0) (get_or b i 0) yes),
  λ h. elim (cases_lt (get_or a i 0) (get_or b i 0)) [
    | inl lt ↦ told_less (get_or a i 0) (get_or b i 0) lt
    | inr le ↦ absurd (behind_here a b i la lb on (omega arith) h)
  ],
)

-- the first list, or both, end there
none_before : (b : List ℕ) → 0 < length b → slice_cmp nat_cmp [] b ≡ Less
none_before [] lt = absurd (omega arith)
none_before (y ∷ ys) lt = refl

not_before_none : (a : List ℕ) → ¬ (slice_cmp nat_cmp a [] ≡ Less)
not_before_none [] h = absurd (cc)
not_before_none (x ∷ xs) h = absurd (cc)

module _ (a b : List ℕ) (i : ℕ) (on : goes_on a b i) where
  pub shorter_before : length a ≤ i → i < length b → IsBefore a b
  shorter_before la lb =
      on ∙ ap (λ t. slice_cmp nat_cmp t (drop i b)) (drop_all i a la)
      ∙ none_before (drop i b) (omega (arith, length-drop i b))

  pub longer_behind : length b ≤ i → ¬ IsBefore a b
  longer_behind lb h =
      not_before_none (drop i a) (ap (slice_cmp nat_cmp (drop i a)) (sym (drop_all i b lb)) ∙ sym on ∙ h)

-- where none differs the lengths decide
pub told_end : (a b : List ℕ) (i : ℕ) → goes_on a b i → i ≡ min (length a) (length b)
    → IsTrue (nat_lt (length a) (length b)) ↔ IsBefore a b
told_end a b i on e = (
  λ yes. let lt = less_told (length a) (length b) yes in shorter_before a b i on (omega arith) (omega arith),
  λ h. elim (cases_lt (length a) (length b))
      [ inl lt ↦ told_less (length a) (length b) lt | inr le ↦ absurd (longer_behind a b i on (omega arith) h) ],
)

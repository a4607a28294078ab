-- Bit sets of places by their words.
use Rattle.std.proofs.Common.{◌≡◌, ◌≢◌, ℕ, ◌+◌, ◌-◌, ◌*◌, ◌/◌, ◌%◌, ◌^◌, ◌<◌, ◌≤◌, Bool, true, false, not, ◌&&◌, ◌||◌}
use Rattle.std.proofs.Common.{eqb, List, set, get_or, length, get_or-set_other, get_or-set_same, ◌⊎◌, inl, inr, refl}
use Rattle.std.proofs.Common.{sym, ap, ◌∙◌, arith}
use Rattle.std.specs.Prelude.{min, max, bit_and, bit_or, IsTrue}
use Rattle.std.specs.Int.{bit_at, trailing_zeros, w64}
use Rattle.std.proofs.lemmas.Bool.{cases_lt, lt-ltb, le-ltb, eq-eqb, ne_eqb, eqb-true, cases_Bool}
use Rattle.std.proofs.lemmas.Nat.Bits.{bit_at_and, bit_at_or, bit_at-zero, bit_at-lt, bit_at_set_same, bit_at_set_other}
use Rattle.std.proofs.lemmas.Nat.Bits.{bit_at-trailing_zeros}
use Rattle.ts_match.specs.declared.bit_sets.TheConstants.{WORD}
use Rattle.ts_match.specs.Inner.BitSets.{word_bit, value_in}

-- a bit is 0 or 1
bit_cases : (n i : ℕ) → (bit_at n i ≡ 0) ⊎ (bit_at n i ≡ 1)
bit_cases n i =
    let l = bit_at-lt n i in elim (cases_lt (bit_at n i) 1) [ inl h ↦ inl (omega arith) | inr h ↦ inr (omega arith) ]

bit_min : (a b : ℕ) → (a ≡ 0) ⊎ (a ≡ 1) → (b ≡ 0) ⊎ (b ≡ 1) → eqb (min a b) 1 ≡ (eqb a 1 && eqb b 1)
bit_min a b (inl p) (inl q) = rw (p, q) refl
bit_min a b (inl p) (inr q) = rw (p, q) refl
bit_min a b (inr p) (inl q) = rw (p, q) refl
bit_min a b (inr p) (inr q) = rw (p, q) refl

bit_max : (a b : ℕ) → (a ≡ 0) ⊎ (a ≡ 1) → (b ≡ 0) ⊎ (b ≡ 1) → eqb (max a b) 1 ≡ (eqb a 1 || eqb b 1)
bit_max a b (inl p) (inl q) = rw (p, q) refl
bit_max a b (inl p) (inr q) = rw (p, q) refl
bit_max a b (inr p) (inl q) = rw (p, q) refl
bit_max a b (inr p) (inr q) = rw (p, q) refl

bit_other : (a : ℕ) → (a ≡ 0) ⊎ (a ≡ 1) → eqb (1 - a) 1 ≡ not (eqb a 1)
bit_other a (inl p) = rw p refl
bit_other a (inr p) = rw p refl

word_of : (count j : ℕ) → j < WORD * count → j / WORD < count
word_of count j h = omega arith

bit_of : (j : ℕ) → j % WORD < WORD
bit_of j = omega arith

-- the value of a bit set, word by word
abbrev pub Value : ℕ → List ℕ → Bool → (ℕ → Bool) → Type 0
Value count ws rest f = (j : ℕ) → value_in count ws rest j ≡ f j

by_place : (count : ℕ) (ws : List ℕ) (rest : Bool) (f : ℕ → Bool) → ((j : ℕ) → j < WORD * count → word_bit ws j ≡ f j)
    → ((j : ℕ) → WORD * count ≤ j → rest ≡ f j) → Value count ws rest f
by_place count ws rest f g h j = elim (cases_lt j (WORD * count)) [
  | inl l ↦ rw (lt-ltb j (WORD * count) l) (g j l)
  | inr l ↦ rw (le-ltb j (WORD * count) l) (h j l)
]

pub within_words : (count : ℕ) (ws : List ℕ) (rest : Bool) (j : ℕ) → j < WORD * count
    → value_in count ws rest j ≡ word_bit ws j
within_words count ws rest j l = rw (lt-ltb j (WORD * count) l) refl

pub beyond_words : (count : ℕ) (ws : List ℕ) (rest : Bool) (j : ℕ) → WORD * count ≤ j → value_in count ws rest j ≡ rest
beyond_words count ws rest j l = rw (le-ltb j (WORD * count) l) refl

pub cleared : (count : ℕ) (ws : List ℕ) (rest : Bool) → ((k : ℕ) → k < count → get_or ws k 0 ≡ 0) → rest ≡ false
    → Value count ws rest (λ j. false)
cleared count ws rest h r = by_place count ws rest (λ j. false)
    (λ j l. ap (λ w. eqb (bit_at w (j % WORD)) 1) (h (j / WORD) (word_of count j l))
    ∙ ap (λ b. eqb b 1) (bit_at-zero (j % WORD)))
    (λ j l. r)

pub negated_row : (count : ℕ) (old new : List ℕ) (old_rest new_rest : Bool)
    → ((k : ℕ) → k < count → (i : ℕ) → i < WORD → bit_at (get_or new k 0) i ≡ 1 - bit_at (get_or old k 0) i)
    → new_rest ≡ not old_rest → Value count new new_rest (λ j. not (value_in count old old_rest j))
negated_row count old new old_rest new_rest h r = by_place count new new_rest (λ j. not (value_in count old old_rest j))
    (λ j l.
    let a = get_or old (j / WORD) 0 in
    ap (λ b. eqb b 1) (h (j / WORD) (word_of count j l) (j % WORD) (bit_of j))
    ∙ bit_other (bit_at a (j % WORD)) (bit_cases a (j % WORD))
    ∙ ap not (sym (within_words count old old_rest j l)))
    (λ j l. r ∙ ap not (sym (beyond_words count old old_rest j l)))

pub met_row : (count : ℕ) (old other new : List ℕ) (old_rest other_rest new_rest : Bool)
    → ((k : ℕ) → k < count → get_or new k 0 ≡ bit_and (get_or old k 0) (get_or other k 0))
    → new_rest ≡ (old_rest && other_rest)
    → Value count new new_rest (λ j. value_in count old old_rest j && value_in count other other_rest j)
met_row count old other new old_rest other_rest new_rest h r =
    by_place count new new_rest (λ j. value_in count old old_rest j && value_in count other other_rest j)
    (λ j l.
    let a = get_or old (j / WORD) 0 in
    let b = get_or other (j / WORD) 0 in
    let p = sym (within_words count old old_rest j l) in
    let q = sym (within_words count other other_rest j l) in
    ap (λ w. eqb (bit_at w (j % WORD)) 1) (h (j / WORD) (word_of count j l))
    ∙ ap (λ x. eqb x 1) (bit_at_and a b (j % WORD))
    ∙ bit_min (bit_at a (j % WORD)) (bit_at b (j % WORD)) (bit_cases a (j % WORD)) (bit_cases b (j % WORD))
    ∙ ap (λ x. x && word_bit other j) p ∙ ap (λ x. value_in count old old_rest j && x) q)
    (λ j l. r ∙ ap (λ x. x && other_rest) (sym (beyond_words count old old_rest j l))
    ∙ ap (λ x. value_in count old old_rest j && x) (sym (beyond_words count other other_rest j l)))

pub joined_row : (count : ℕ) (old other new : List ℕ) (old_rest other_rest new_rest : Bool)
    → ((k : ℕ) → k < count → get_or new k 0 ≡ bit_or (get_or old k 0) (get_or other k 0))
    → new_rest ≡ (old_rest || other_rest)
    → Value count new new_rest (λ j. value_in count old old_rest j || value_in count other other_rest j)
joined_row count old other new old_rest other_rest new_rest h r =
    by_place count new new_rest (λ j. value_in count old old_rest j || value_in count other other_rest j)
    (λ j l.
    let a = get_or old (j / WORD) 0 in
    let b = get_or other (j / WORD) 0 in
    let p = sym (within_words count old old_rest j l) in
    let q = sym (within_words count other other_rest j l) in
    ap (λ w. eqb (bit_at w (j % WORD)) 1) (h (j / WORD) (word_of count j l))
    ∙ ap (λ x. eqb x 1) (bit_at_or a b (j % WORD))
    ∙ bit_max (bit_at a (j % WORD)) (bit_at b (j % WORD)) (bit_cases a (j % WORD)) (bit_cases b (j % WORD))
    ∙ ap (λ x. x || word_bit other j) p ∙ ap (λ x. value_in count old old_rest j || x) q)
    (λ j l. r ∙ ap (λ x. x || other_rest) (sym (beyond_words count old old_rest j l))
    ∙ ap (λ x. value_in count old old_rest j || x) (sym (beyond_words count other other_rest j l)))

-- a word that is not 0 has a bit that is 1
pub lowest : (w : ℕ) → w ≢ 0 → w < 2 ^ 64 → (i : ℕ) × (i < WORD) × (bit_at w i ≡ 1)
lowest w n f =
    let p : 0 < w = omega arith in
    let b = bit_at-trailing_zeros w64 w p f in
    (trailing_zeros w64 w, b.0, b.1)

pub some_bit : (count : ℕ) (ws : List ℕ) (rest : Bool) (k : ℕ) → k < count
    → (i : ℕ) × (i < WORD) × (bit_at (get_or ws k 0) i ≡ 1) → (j : ℕ) × IsTrue (value_in count ws rest j)
some_bit count ws rest k l b =
    let w = get_or ws k 0 in
    let t = b.0 in
    let r : t < WORD = b.1 in
    let j = WORD * k + t in
    let q : j / WORD ≡ k = omega arith in
    let m : j % WORD ≡ t = omega arith in (
      j,
      within_words count ws rest j (omega arith) ∙ ap (λ x. eqb (bit_at (get_or ws x 0) (j % WORD)) 1) q
          ∙ ap (λ x. eqb (bit_at w x) 1) m ∙ ap (λ x. eqb x 1) b.2,
    )

pub no_bit : (count : ℕ) (ws : List ℕ) (rest : Bool) → ((k : ℕ) → k < count → get_or ws k 0 ≡ 0) → rest ≡ false
    → (j : ℕ) → IsTrue (value_in count ws rest j) → ⊥
no_bit count ws rest h r j t = let e = sym (cleared count ws rest h r j) ∙ t in cc

-- one bit more
same_bit : (a b j place : ℕ) → a ≡ bit_or b (1 * 2 ^ (place % WORD) % 2 ^ 64)
    → (j % WORD ≡ place % WORD) ⊎ (j % WORD ≢ place % WORD) → j / WORD ≡ place / WORD
    → eqb (bit_at a (j % WORD)) 1 ≡ (eqb j place || eqb (bit_at b (j % WORD)) 1)
same_bit a b j place e (inl m) q =
    let same : j ≡ place = omega arith in
    let l : place % WORD < 64 = omega arith in
    rw (eq-eqb j place same) (ap (λ x. eqb (bit_at x (j % WORD)) 1) e
    ∙ ap (λ x. eqb (bit_at (bit_or b (1 * 2 ^ (place % WORD) % 2 ^ 64)) x) 1) m
    ∙ ap (λ x. eqb x 1) (bit_at_set_same w64 b (place % WORD) l))
same_bit a b j place e (inr m) q =
    let l : place % WORD < 64 = omega arith in
    rw (ne_eqb j place (λ f. m (ap (λ x. x % WORD) f))) (ap (λ x. eqb (bit_at x (j % WORD)) 1) e
    ∙ ap (λ x. eqb x 1) (bit_at_set_other w64 b (place % WORD) l (j % WORD) m))

equal_or_not : (a b : ℕ) → (a ≡ b) ⊎ (a ≢ b)
equal_or_not a b = elim (cases_Bool (eqb a b)) [
  | inl t ↦ inl (eqb-true a b t)
  | inr n ↦ inr (λ e. let t = eq-eqb a b e in let x : ⊥ = cc in x)
]

set_word : (old new : List ℕ) (j place : ℕ) → place / WORD < length old
    → new ≡ set old (place / WORD) (bit_or (get_or old (place / WORD) 0) (1 * 2 ^ (place % WORD) % 2 ^ 64))
    → (j / WORD ≡ place / WORD) ⊎ (j / WORD ≢ place / WORD) → word_bit new j ≡ (eqb j place || word_bit old j)
set_word old new j place l e (inl q) =
    let x = bit_or (get_or old (place / WORD) 0) (1 * 2 ^ (place % WORD) % 2 ^ 64) in
    let a : get_or new (j / WORD) 0 ≡ bit_or (get_or old (j / WORD) 0) (1 * 2 ^ (place % WORD) % 2 ^ 64) =
    ap (λ (ws : List ℕ). get_or ws (j / WORD) 0) e ∙ ap (λ k. get_or (set old (place / WORD) x) k 0) q
    ∙ get_or-set_same old (place / WORD) x 0 l
    ∙ ap (λ k. bit_or (get_or old k 0) (1 * 2 ^ (place % WORD) % 2 ^ 64)) (sym q) in
    same_bit (get_or new (j / WORD) 0) (get_or old (j / WORD) 0) j place a (equal_or_not (j % WORD) (place % WORD)) q
set_word old new j place l e (inr q) =
    let x = bit_or (get_or old (place / WORD) 0) (1 * 2 ^ (place % WORD) % 2 ^ 64) in
    let a : get_or new (j / WORD) 0 ≡ get_or old (j / WORD) 0 = ap (λ (ws : List ℕ). get_or ws (j / WORD) 0) e
    ∙ (let n : j / WORD ≢ place / WORD = q in rw get_or-set_other refl) in
    rw (ne_eqb j place (λ f. q (ap (λ y. y / WORD) f))) (ap (λ w. eqb (bit_at w (j % WORD)) 1) a)

pub set_row : (count : ℕ) (old new : List ℕ) (old_rest new_rest : Bool) (place : ℕ) → place < WORD * count
    → count ≤ length old
    → new ≡ set old (place / WORD) (bit_or (get_or old (place / WORD) 0) (1 * 2 ^ (place % WORD) % 2 ^ 64))
    → new_rest ≡ old_rest
    → Value count new new_rest (λ j. eqb j place || value_in count old old_rest j)
set_row count old new old_rest new_rest place l w e r =
    by_place count new new_rest (λ j. eqb j place || value_in count old old_rest j)
    (λ j h.
    let q = word_of count place l in
    set_word old new j place (omega arith) e (equal_or_not (j / WORD) (place / WORD))
    ∙ ap (λ b. eqb j place || b) (sym (within_words count old old_rest j h)))
    (λ j h. rw (ne_eqb j place (λ f. omega arith)) (r ∙ sym (beyond_words count old old_rest j h)))

-- one word more
pub flipped : (init now : List ℕ) (i x y : ℕ) → i < length now → x ≡ get_or now i 0
    → ((r : ℕ) → r < WORD → bit_at y r ≡ 1 - bit_at x r)
    → ((k : ℕ) → k < i → (r : ℕ) → r < WORD → bit_at (get_or now k 0) r ≡ 1 - bit_at (get_or init k 0) r)
    → ((k : ℕ) → i ≤ k → get_or now k 0 ≡ get_or init k 0)
    → (k : ℕ) → k < i + 1 → (r : ℕ) → r < WORD → bit_at (get_or (set now i y) k 0) r ≡ 1 - bit_at (get_or init k 0) r
flipped init now i x y l e f below above k h r g = elim (cases_lt k i) [
  | inl q ↦ let n : k ≢ i = omega arith in rw get_or-set_other (below k q r g)
  | inr q ↦
      let same : k ≡ i = omega arith in
      ap (λ j. bit_at (get_or (set now i y) j 0) r) same ∙ ap (λ w. bit_at w r) (get_or-set_same now i y 0 l)
      ∙ f r g ∙ ap (λ w. 1 - bit_at w r) (e ∙ above i (omega arith))
      ∙ ap (λ j. 1 - bit_at (get_or init j 0) r) (sym same)
]

pub kept_words : (init now : List ℕ) (i y : ℕ) → ((k : ℕ) → i ≤ k → get_or now k 0 ≡ get_or init k 0) → (k : ℕ)
    → i + 1 ≤ k → get_or (set now i y) k 0 ≡ get_or init k 0
kept_words init now i y above k h = let n : k ≢ i = omega arith in rw get_or-set_other (above k (omega arith))

-- a truth that a branch on the left one gives
pub and_by : (a b c r : Bool) → a ≡ c → a ≡ true → r ≡ b → r ≡ (c && b)
and_by a b c r s e f = rw (sym s ∙ e) f

pub and_not : (a b c r : Bool) → a ≡ c → a ≡ false → r ≡ a → r ≡ (c && b)
and_not a b c r s e f = rw (sym s ∙ e) (f ∙ e)

pub or_by : (a b c r : Bool) → a ≡ c → a ≡ true → r ≡ a → r ≡ (c || b)
or_by a b c r s e f = rw (sym s ∙ e) (f ∙ e)

pub or_not : (a b c r : Bool) → a ≡ c → a ≡ false → r ≡ b → r ≡ (c || b)
or_not a b c r s e f = rw (sym s ∙ e) f

-- What a line opens, by its first word.
use Rattle.std.proofs.Common.{◌≡◌, ◌⊎◌, inl, inr, ℕ, ◌<◌, ◌==◌, ◌||◌, Bool, true, false, cond, if◌then◌else◌, List, []}
use Rattle.std.proofs.Common.{◌∷◌, ◌++◌, length, codes, arith, refl, sym, ◌∙◌, ap, subst, eq-eqb}
use Rattle.std.specs.Prelude.{bytes_eq}
use Rattle.std.specs.List.{All}
use Rattle.std.proofs.lemmas.Bool.{eqb-true}
use Rattle.std.proofs.lemmas.Slice.Eq.{bytes_eq-Decides}
use Rattle.std.proofs.lemmas.List.Elements.{All-head, All-tail, All-nil, All-cons}
use Rattle.ts_base.specs.Bytes.{IsBlank}
use Rattle.ts_base.specs.Words.{IsWord, EndsWord, BeginsWithWord}
use Rattle.ts_base.proofs.LineWords.{IsDark}
use Rattle.shell_script.specs.Grammar.{IsSkipped}
use Rattle.shell_script.specs.Lines.{Line}
use Rattle.shell_script.specs.Steps.{IsEnd, HasFirst, OpensDefinition, OpensBlock}
use Rattle.shell_script.specs.StepsOf.{is_skipped, is_blank, word_of, first_word, is_end, opens_definition, opens_block}

-- ── blanks ──
pub blank_true : (b : ℕ) → IsBlank b → is_blank b ≡ true
blank_true b (inl e) = ap (λ x. x || (b == 9)) (eq-eqb b 32 e)
blank_true b (inr e) = by (b == 32) (eq-eqb b 9 e)
  where
    by : (x : Bool) → (b == 9) ≡ true → (x || (b == 9)) ≡ true
    by true f = refl
    by false f = f

pub blank_is : (b : ℕ) → is_blank b ≡ true → IsBlank b
blank_is b e = by (b == 32) refl e
  where
    by : (x : Bool) → (b == 32) ≡ x → (x || (b == 9)) ≡ true → IsBlank b
    by true f g = inl (eqb-true b 32 f)
    by false f g = inr (eqb-true b 9 g)

pub dark_false : (b : ℕ) → IsDark b → is_blank b ≡ false
dark_false b d = by (is_blank b) refl
  where
    by : (x : Bool) → is_blank b ≡ x → x ≡ false
    by true e = absurd (d (blank_is b e))
    by false e = refl

-- ── the first word ──
pub word_before : (w rest : List ℕ) → All IsDark w → EndsWord rest → word_of (w ++ rest) ≡ w
word_before [] [] d e = refl
word_before [] (b ∷ rest) d e = ap (λ x. if x then [] else b ∷ word_of rest) (blank_true b e)
word_before (b ∷ w) rest d e =
    ap (λ x. if x then [] else b ∷ word_of (w ++ rest)) (dark_false b (All-head IsDark b w d))
    ∙ ap (λ z. b ∷ z) (word_before w rest (All-tail IsDark b w d) e)

first_at : (gap w rest : List ℕ) → All IsBlank gap → IsWord w → EndsWord rest → first_word (gap ++ (w ++ rest)) ≡ w
first_at [] [] rest g k e = absurd (omega (arith, k.some))
first_at [] (b ∷ w) rest g k e =
    ap (λ x. if x then first_word (w ++ rest) else b ∷ word_of (w ++ rest)) (dark_false b (All-head IsDark b w k.dark))
    ∙ ap (λ z. b ∷ z) (word_before w rest (All-tail IsDark b w k.dark) e)
first_at (b ∷ gap) w rest g k e =
    ap (λ x. if x then first_word (gap ++ (w ++ rest)) else b ∷ word_of (gap ++ (w ++ rest)))
    (blank_true b (All-head IsBlank b gap g))
    ∙ first_at gap w rest (All-tail IsBlank b gap g) k e

pub first_is : (line w rest : List ℕ) → BeginsWithWord line w rest → first_word line ≡ w
first_is line w rest h = ap first_word h.text ∙ first_at h.gap w rest h.blank h.is_word h.ends

-- what is after the first word
pub word_cut : (bytes : List ℕ)
    → (rest : List ℕ) × (bytes ≡ word_of bytes ++ rest) × EndsWord rest × All IsDark (word_of bytes)
word_cut [] = ([], refl, tt, All-nil IsDark)
word_cut (b ∷ bytes) = by (is_blank b) refl (word_cut bytes)
  where
    by : (x : Bool) → is_blank b ≡ x → (rest : List ℕ) × (bytes ≡ word_of bytes ++ rest) × EndsWord rest
        × All IsDark (word_of bytes) → (rest : List ℕ) × (b ∷ bytes ≡ cond x [] (b ∷ word_of bytes) ++ rest)
        × EndsWord rest × All IsDark (cond x [] (b ∷ word_of bytes))
    by true e cut = (b ∷ bytes, refl, blank_is b e, All-nil IsDark)
    by false e cut =
        let dark : IsDark b = λ k. absurd (let x : true ≡ false = sym (blank_true b k) ∙ e in let y : ⊥ = cc in y) in
        (cut.0, ap (λ z. b ∷ z) cut.1, cut.2, All-cons IsDark b (word_of bytes) dark cut.3)

-- a line begins with its first word, or is blank
pub first_found : (line : List ℕ)
    → (first_word line ≡ []) ⊎ ((rest : List ℕ) × BeginsWithWord line (first_word line) rest)
first_found [] = inl refl
first_found (b ∷ bytes) = by (is_blank b) refl (first_found bytes)
  where
    behind : IsBlank b → (first_word bytes ≡ []) ⊎ ((rest : List ℕ) × BeginsWithWord bytes (first_word bytes) rest)
        → (first_word bytes ≡ []) ⊎ ((rest : List ℕ) × BeginsWithWord (b ∷ bytes) (first_word bytes) rest)
    behind k (inl e) = inl e
    behind k (inr (rest, h)) = inr (
      rest,
      record {
        gap = b ∷ h.gap;
        blank = All-cons IsBlank b h.gap k h.blank;
        is_word = h.is_word;
        text = ap (λ z. b ∷ z) h.text;
        ends = h.ends;
      },
    )

    by : (x : Bool) → is_blank b ≡ x → (first_word bytes ≡ []) ⊎ ((rest : List ℕ)
        × BeginsWithWord bytes (first_word bytes) rest) → (cond x (first_word bytes) (b ∷ word_of bytes) ≡ [])
        ⊎ ((rest : List ℕ) × BeginsWithWord (b ∷ bytes) (cond x (first_word bytes) (b ∷ word_of bytes)) rest)
    by true e found = behind (blank_is b e) found
    by false e found =
        let cut = word_cut bytes in
        let dark : IsDark b = λ k. absurd (let x : true ≡ false = sym (blank_true b k) ∙ e in let y : ⊥ = cc in y) in
        inr (
          cut.0,
          record {
            gap = [];
            blank = All-nil IsBlank;
            is_word = record { some = omega arith; dark = All-cons IsDark b (word_of bytes) dark cut.3 };
            text = ap (λ z. b ∷ z) cut.1;
            ends = cut.2;
          },
        )

pub no_first : (line : List ℕ) → ((w rest : List ℕ) → BeginsWithWord line w rest → ⊥) → first_word line ≡ []
no_first line none = elim (first_found line) [ inl e ↦ e | inr h ↦ absurd (none (first_word line) h.0 h.1) ]

-- ── the tests and what they test ──
same_bytes : (xs ys : List ℕ) → xs ≡ ys → bytes_eq xs ys ≡ true
same_bytes xs ys e = (bytes_eq-Decides xs ys).1 e

pub bytes_same : (xs ys : List ℕ) → bytes_eq xs ys ≡ true → xs ≡ ys
bytes_same xs ys e = (bytes_eq-Decides xs ys).0 e

pub has_first_true : (w : List ℕ) (l : Line) → HasFirst w l → bytes_eq (first_word l.bytes) w ≡ true
has_first_true w l h = same_bytes (first_word l.bytes) w (first_is l.bytes w h.0 h.1)

pub true_has_first : (w : List ℕ) (l : Line) → 0 < length w → bytes_eq (first_word l.bytes) w ≡ true → HasFirst w l
true_has_first w l some e =
    let is : first_word l.bytes ≡ w = bytes_same (first_word l.bytes) w e in
    elim (first_found l.bytes) [
      | inl none ↦ absurd (let z : length w ≡ 0 = ap length (sym is ∙ none) in omega (arith, z, some))
      | inr h ↦ (h.0, subst (λ v. BeginsWithWord l.bytes v h.0) is h.1)
    ]

pub skipped_true : (bytes : List ℕ) → IsSkipped bytes → is_skipped bytes ≡ true
skipped_true [] h = refl
skipped_true (b ∷ bytes) h = eq-eqb b 35 h

pub true_skipped : (bytes : List ℕ) → is_skipped bytes ≡ true → IsSkipped bytes
true_skipped [] h = tt
true_skipped (b ∷ bytes) h = eqb-true b 35 h

pub end_true : (l : Line) → IsEnd l → is_end l.bytes ≡ true
end_true l e = same_bytes l.bytes (codes "end") e

pub true_end : (l : Line) → is_end l.bytes ≡ true → IsEnd l
true_end l e = bytes_same l.bytes (codes "end") e

pub definition_true : (l : Line) → OpensDefinition l → opens_definition l.bytes ≡ true
definition_true l (inl h) =
    ap (λ x. x || bytes_eq (first_word l.bytes) (codes "configuration")) (has_first_true (codes "dictionary") l h)
definition_true l (inr h) =
    by (bytes_eq (first_word l.bytes) (codes "dictionary")) (has_first_true (codes "configuration") l h)
  where
    by : (x : Bool) → bytes_eq (first_word l.bytes) (codes "configuration") ≡ true
        → (x || bytes_eq (first_word l.bytes) (codes "configuration")) ≡ true
    by true f = refl
    by false f = f

pub true_definition : (l : Line) → opens_definition l.bytes ≡ true → OpensDefinition l
true_definition l e = by (bytes_eq (first_word l.bytes) (codes "dictionary")) refl e
  where
    by : (x : Bool) → bytes_eq (first_word l.bytes) (codes "dictionary") ≡ x
        → (x || bytes_eq (first_word l.bytes) (codes "configuration")) ≡ true → OpensDefinition l
    by true f g = inl (true_has_first (codes "dictionary") l (omega arith) f)
    by false f g = inr (true_has_first (codes "configuration") l (omega arith) g)

pub block_true : (l : Line) → OpensBlock l → opens_block l.bytes ≡ true
block_true l h = has_first_true (codes "parallel") l h

pub true_block : (l : Line) → opens_block l.bytes ≡ true → OpensBlock l
true_block l e = true_has_first (codes "parallel") l (omega arith) e

-- a test that fails
pub false_is : (b : Bool) → (b ≡ true → ⊥) → b ≡ false
false_is true h = absurd (h refl)
false_is false h = refl

pub no_true : (b : Bool) → b ≡ false → b ≡ true → ⊥
no_true b e f = let x : true ≡ false = sym f ∙ e in let y : ⊥ = cc in y

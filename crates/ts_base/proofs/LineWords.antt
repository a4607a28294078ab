-- A line has one list of words, and where its first word is cut off.
use Rattle.std.proofs.Common.{◌≡◌, ◌⊎◌, inl, inr, ℕ, zero, suc, ◌<◌, ◌≤◌, ◌-◌, List, [], ◌∷◌, ◌++◌, length, take, drop}
use Rattle.std.proofs.Common.{get_or, refl, sym, ◌∙◌, ap, subst, add-one, arith}
use Rattle.std.specs.Prelude.{All}
use Rattle.std.specs.Str.{IsUtf8, IsCharBoundary}
use Rattle.std.proofs.lemmas.List.{get_or-take, append-nil, length-drop, take-append-drop}
use Rattle.std.proofs.Math.Seq.{take-length}
use Rattle.std.proofs.lemmas.List.Elements.{All-head, All-tail}
use Rattle.std.proofs.lemmas.Grind.{common_steps}
use Rattle.std.proofs.lemmas.Str.{IsCharBoundary-start, IsCharBoundary-after_ascii}
use Rattle.ts_base.specs.Bytes.{IsBlank, BeginsWithout}
use Rattle.ts_base.specs.Words.{IsWord, EndsWord, BeginsWithWord, IsFirstWord, AreWords, WordsAreOne}
use Rattle.ts_base.proofs.ByteKinds.{blank_ascii}
use Rattle.ts_base.proofs.Fronts.{same_front}

-- after blanks a text may be cut
pub behind_blanks : (text : List ℕ) (n : ℕ) → IsUtf8 text → n ≤ length text → All IsBlank (take n text)
    → IsCharBoundary text n
behind_blanks text zero u le h = IsCharBoundary-start text u
behind_blanks text (suc m) u le h =
    let lt : m < length text = omega arith in
    let here : m < suc m = omega arith in
    let inside : m < length (take (suc m) text) = grind (arith, common_steps) in
    let blank : IsBlank (get_or text m 0) = subst IsBlank (get_or-take (suc m) text m 0 here) (h m 0 inside) in
    subst (IsCharBoundary text) (add-one m)
    (IsCharBoundary-after_ascii text m u lt (blank_ascii (get_or text m 0) blank))

abbrev pub IsDark : ℕ → Type 0
IsDark c = ¬ IsBlank c

word_begins : (word rest : List ℕ) → IsWord word → BeginsWithout IsBlank (word ++ rest)
word_begins [] rest w = absurd (omega (arith, w.some))
word_begins (c ∷ word) rest w = All-head IsDark c word w.dark

word_ends : (rest : List ℕ) → EndsWord rest → BeginsWithout IsDark rest
word_ends [] e = tt
word_ends (c ∷ rest) e = λ k. k e

blanks_no_word : (gap word rest : List ℕ) → IsWord word → ¬ All IsBlank (gap ++ (word ++ rest))
blanks_no_word [] [] rest w h = omega (arith, w.some)
blanks_no_word [] (c ∷ word) rest w h = All-head IsDark c word w.dark (All-head IsBlank c (word ++ rest) h)
blanks_no_word (c ∷ gap) word rest w h = blanks_no_word gap word rest w (All-tail IsBlank c (gap ++ (word ++ rest)) h)

-- a line begins with one word
pub one_word : (line v w r s : List ℕ) → BeginsWithWord line v r → BeginsWithWord line w s → (v ≡ w) × (r ≡ s)
one_word line v w r s h k =
    let gaps = same_front IsBlank h.gap k.gap (v ++ r) (w ++ s) h.blank k.blank (word_begins v r h.is_word)
    (word_begins w s k.is_word) (sym h.text ∙ k.text) in
    same_front IsDark v w r s h.is_word.dark k.is_word.dark (word_ends r h.ends) (word_ends s k.ends) gaps.1

pub first_word_is_one : (line v w : List ℕ) → IsFirstWord line v → IsFirstWord line w → v ≡ w
first_word_is_one line v w (r, h) (s, k) = (one_word line v w r s h k).0

-- a line of blanks begins with none
pub no_first_word : (line w : List ℕ) → All IsBlank line → ¬ IsFirstWord line w
no_first_word line w h (r, b) = blanks_no_word b.gap w r b.is_word (subst (All IsBlank) b.text h)

pub words_are_one : WordsAreOne
words_are_one line [] [] h k = refl
words_are_one line [] (w ∷ ws) h (r, b, k) = absurd (blanks_no_word b.gap w r b.is_word (subst (All IsBlank) b.text h))
words_are_one line (v ∷ vs) [] (r, b, h) k = absurd (blanks_no_word b.gap v r b.is_word (subst (All IsBlank) b.text k))
words_are_one line (v ∷ vs) (w ∷ ws) (r, b, h) (s, d, k) =
    let same = one_word line v w r s b d in
    let rest : vs ≡ ws = words_are_one s vs ws (subst (λ z. AreWords z vs) same.1 h) k in
    ap (λ z. z ∷ vs) same.0 ∙ ap (λ z. w ∷ z) rest

-- ── a word is cut off ──
pub cut : (text front back : List ℕ) (n : ℕ) → front ≡ take n text → back ≡ drop n text → text ≡ front ++ back
cut text front back n e f =
    sym (take-append-drop n text) ∙ ap (λ z. z ++ drop n text) (sym e) ∙ ap (λ z. front ++ z) (sym f)

blank_or : (c : ℕ) → IsBlank c ⊎ (¬ IsBlank c)
blank_or c = grind arith

pub ends_of : (rest : List ℕ) → BeginsWithout IsDark rest → EndsWord rest
ends_of [] h = tt
ends_of (c ∷ rest) h = elim (blank_or c) [ inl b ↦ b | inr n ↦ absurd (h n) ]

nothing_left : (rest : List ℕ) → BeginsWithout IsBlank rest → BeginsWithout IsDark rest → rest ≡ []
nothing_left [] h k = refl
nothing_left (c ∷ rest) h k = absurd (k h)

-- where no word begins after blanks, the line is blank
pub all_blank : (line gap rest : List ℕ) → All IsBlank gap → line ≡ gap ++ rest → BeginsWithout IsBlank rest
    → BeginsWithout IsDark rest → All IsBlank line
all_blank line gap rest b e h k =
    subst (All IsBlank) (sym (append-nil gap) ∙ ap (λ z. gap ++ z) (sym (nothing_left rest h k)) ∙ sym e) b

-- a word that is cut off where text is left has a byte
not_empty : (rest : List ℕ) (m : ℕ) → BeginsWithout IsBlank rest → 0 < length rest → m ≤ length rest
    → EndsWord (drop m rest) → 0 < length (take m rest)
not_empty [] m b l le e = absurd (omega arith)
not_empty (x ∷ rest) zero b l le e = absurd (b e)
not_empty (x ∷ rest) (suc m) b l le e = omega arith

-- what is left after a place, cut to its length
pub whole_rest : (line : List ℕ) (n : ℕ) → take (length line - n) (drop n line) ≡ drop n line
whole_rest line n = ap (λ k. take k (drop n line)) (sym (length-drop n line)) ∙ take-length (drop n line)

-- blanks up to the end
pub blank_whole : (line : List ℕ) (n : ℕ) → n ≤ length line → length line - n ≡ 0 → All IsBlank (take n line)
    → All IsBlank line
blank_whole line n le e h =
    subst (All IsBlank) (ap (λ k. take k line) (let z : n ≡ length line = omega arith in z) ∙ take-length line) h

-- the word that a cut gives
pub cut_word : (line rest : List ℕ) (n m : ℕ) → rest ≡ drop n line → All IsBlank (take n line)
    → BeginsWithout IsBlank rest → 0 < length rest → m ≤ length rest → All IsDark (take m rest) → EndsWord (drop m rest)
    → BeginsWithWord line (take m rest) (drop m rest)
cut_word line rest n m e blank begins some le dark ends = record {
  gap = take n line;
  blank = blank;
  is_word = record { some = not_empty rest m begins some le ends; dark = dark };
  text = cut line (take n line) rest n refl e
      ∙ ap (λ z. take n line ++ z) (cut rest (take m rest) (drop m rest) m refl refl);
  ends = ends;
}

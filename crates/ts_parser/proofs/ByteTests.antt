-- Tests of bytes, and what they say.
use Rattle.std.proofs.Common.{◌≡◌, ℕ, List, [], ◌∷◌, Bool, true, false, ◌||◌, ◌&&◌, ◌==◌, not, refl, sym, ◌∙◌, arith}
use Rattle.std.proofs.Common.{Decides, All, Any, one-add}
use Rattle.std.specs.List.{list_all, list_any}
use Rattle.std.specs.Char.{is_ascii_digit, is_ascii_alphabetic, IsAsciiDigit, IsAsciiAlphabetic}
use Rattle.std.proofs.lemmas.Bool.{false≢true, and_parts}
use Rattle.std.proofs.lemmas.Bool.Decides.{nat_tests, Decides-or, Decides-by_and, not_from_Decides}
use Rattle.std.proofs.lemmas.List.Folds.{Any-from_list_any, list_any-from_Any}
use Rattle.ts_parser.specs.Letters.{IsWordLetter, IsWordByte, StartsWithout, is_word_letter, is_word_byte, begins_with}
use Rattle.ts_parser.specs.Numbers.{IsSign, IsExponentMark, EndsNumber}
use Rattle.ts_parser.specs.NumberForms.{is_sign, ends_number}
use Rattle.ts_parser.specs.Rows.{begins_piece}

pub tells_digit : (c : ℕ) → Decides (is_ascii_digit c) (IsAsciiDigit c)
tells_digit c = grind (arith, nat_tests)

pub tells_ascii : (c : ℕ) → Decides (is_ascii_alphabetic c) (IsAsciiAlphabetic c)
tells_ascii c = grind (arith, nat_tests)

pub tells_letter : (c : ℕ) → Decides (is_word_letter c) (IsWordLetter c)
tells_letter c = grind (arith, nat_tests)

pub tells_word_byte : (c : ℕ) → Decides (is_word_byte c) (IsWordByte c)
tells_word_byte c = Decides-or (is_word_letter c) (is_ascii_digit c) (tells_letter c) (tells_digit c)

pub tells_sign : (c : ℕ) → Decides (is_sign c) (IsSign c)
tells_sign c = grind (arith, nat_tests)

pub tells_mark : (c : ℕ) → Decides ((c == 69) || (c == 101)) (IsExponentMark c)
tells_mark c = grind (arith, nat_tests)

-- ── what a test denies ──
pub denied : {P : Type 0} (b : Bool) → Decides b P → (P → ⊥) → b ≡ false
denied true d n = absurd (n (d.0 refl))
denied false d n = refl

pub without_test : (p : ℕ → Bool) (P : ℕ → Type 0) → ((c : ℕ) → Decides (p c) (P c)) → (r : List ℕ) → StartsWithout P r
    → begins_with p r ≡ false
without_test p P d [] h = refl
without_test p P d (c ∷ r) h = denied (p c) (d c) h

pub test_without : (p : ℕ → Bool) (P : ℕ → Type 0) → ((c : ℕ) → Decides (p c) (P c)) → (r : List ℕ)
    → begins_with p r ≡ false → StartsWithout P r
test_without p P d [] h = tt
test_without p P d (c ∷ r) h = not_from_Decides (p c) (d c) h

-- ── lists ──
pub all_test : (p : ℕ → Bool) (P : ℕ → Type 0) → ((c : ℕ) → Decides (p c) (P c)) → (w : List ℕ) → All P w
    → list_all p w ≡ true
all_test p P d w h = (Decides-by_and p P (list_all p) d refl (λ _ _. refl) w).1 h

pub test_all : (p : ℕ → Bool) (P : ℕ → Type 0) → ((c : ℕ) → Decides (p c) (P c)) → (w : List ℕ) → list_all p w ≡ true
    → All P w
test_all p P d w h = (Decides-by_and p P (list_all p) d refl (λ _ _. refl) w).0 h

pub any_test : {X : Type 0} (p : X → Bool) (P : X → Type 0) → ((c : X) → P c → p c ≡ true) → (w : List X) → Any P w
    → list_any p w ≡ true
any_test p P d w (k, x, lt, e, h) = list_any-from_Any p w (k, x, lt, e, d x h)

any_parts : {X : Type 0} (p : X → Bool) (P : X → Type 0) → ((c : X) → p c ≡ true → P c) → (w : List X)
    → Any (λ x. p x ≡ true) w → Any P w
any_parts p P d w (k, x, lt, e, h) = (k, x, lt, e, d x h)

pub test_any : {X : Type 0} (p : X → Bool) (P : X → Type 0) → ((c : X) → p c ≡ true → P c) → (w : List X)
    → list_any p w ≡ true → Any P w
test_any p P d w h = any_parts p P d w (Any-from_list_any p w h)

-- ── bytes against each other ──
pub sign_no_word_byte : (c : ℕ) → is_sign c ≡ true → is_word_byte c ≡ false
sign_no_word_byte c h = grind (arith, nat_tests)

pub digit_word_byte : (c : ℕ) → is_ascii_digit c ≡ true → is_word_byte c ≡ true
digit_word_byte c h = grind (arith, nat_tests)

pub digit_no_sign : (c : ℕ) → is_ascii_digit c ≡ true → is_sign c ≡ false
digit_no_sign c h = grind (arith, nat_tests)

pub digit_no_letter : (c : ℕ) → is_ascii_digit c ≡ true → is_word_letter c ≡ false
digit_no_letter c h = grind (arith, nat_tests)

pub mark_word_byte : (c : ℕ) → ((c == 69) || (c == 101)) ≡ true → is_word_byte c ≡ true
mark_word_byte c h = grind (arith, nat_tests)

pub mark_no_digit : (c : ℕ) → ((c == 69) || (c == 101)) ≡ true → is_ascii_digit c ≡ false
mark_no_digit c h = grind (arith, nat_tests)

pub mark_no_dot : (c : ℕ) → ((c == 69) || (c == 101)) ≡ true → (c == 46) ≡ false
mark_no_dot c h = grind (arith, nat_tests)

-- ── the end of a number ──
-- a byte of one kind begins a piece of that kind
pub piece_begins : (p : ℕ → Bool) (u : List ℕ) → begins_piece p p u ≡ begins_with p u
piece_begins p [] = refl
piece_begins p (c ∷ u) = piece_begins_by (p c) refl
  where
    piece_begins_by : (b : Bool) → p c ≡ b → begins_piece p p (c ∷ u) ≡ p c
    piece_begins_by true e = rw (e, one-add, e) refl
    piece_begins_by false e = rw e refl

pub ends_test : (r : List ℕ) → EndsNumber r → ends_number r ≡ true
ends_test [] h = refl
ends_test (c ∷ r) h = ends_test_by c r (is_word_byte c) (c == 46) (begins_with is_ascii_digit r) refl refl refl h
  where
    ends_test_by : (c : ℕ) (r : List ℕ) (a b d : Bool) → is_word_byte c ≡ a → (c == 46) ≡ b
        → begins_with is_ascii_digit r ≡ d → EndsNumber (c ∷ r) → ends_number (c ∷ r) ≡ true
    ends_test_by c r true b d e f g h = absurd (h.0 ((tells_word_byte c).0 e))
    ends_test_by c r false true true e f g h = absurd
        (false≢true (sym (without_test is_ascii_digit IsAsciiDigit tells_digit r (h.1 (grind (arith, nat_tests)))) ∙ g))
    ends_test_by c r false true false e f g h = rw (e, f, g) refl
    ends_test_by c r false false d e f g h = rw (e, f) refl

not_true : (b : Bool) → not b ≡ true → b ≡ false
not_true true h = sym h
not_true false h = refl

-- what an end of a number is, test by test
pub ends_parts : (c : ℕ) (r : List ℕ) → ends_number (c ∷ r) ≡ true
    → (is_word_byte c ≡ false) × (((c == 46) && begins_with is_ascii_digit r) ≡ false)
ends_parts c r h =
    let k = and_parts (not (is_word_byte c)) (not ((c == 46) && begins_with is_ascii_digit r)) h in
    (not_true (is_word_byte c) k.0, not_true ((c == 46) && begins_with is_ascii_digit r) k.1)

pub test_ends : (r : List ℕ) → ends_number r ≡ true → EndsNumber r
test_ends [] h = tt
test_ends (c ∷ r) h =
    let k = ends_parts c r h in (
      not_from_Decides (is_word_byte c) (tells_word_byte c) k.0,
      λ e. test_without is_ascii_digit IsAsciiDigit tells_digit r (dot_ends c r e k.1),
    )
  where
    dot_ends : (c : ℕ) (r : List ℕ) → c ≡ 46 → ((c == 46) && begins_with is_ascii_digit r) ≡ false
        → begins_with is_ascii_digit r ≡ false
    dot_ends c r e h = let f : (c == 46) ≡ true = grind (arith, nat_tests) in rw f at h

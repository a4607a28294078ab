-- The types of runs, of hyphen words and of their parts are those that the rules name.
use Rattle.std.proofs.Common.{◌≡◌, ℕ, ◌<◌, List, [], ◌∷◌, length, Bool, true, false, not, nat_lt, refl, sym, ap, ◌∙◌}
use Rattle.std.proofs.Common.{arith, All, Any, Decides}
use Rattle.std.specs.List.{list_all, list_any, join_with_byte}
use Rattle.std.specs.Char.{is_ascii_digit, is_ascii_alphabetic, IsAsciiDigit, IsAsciiAlphabetic}
use Rattle.std.proofs.lemmas.Bool.{or_parts}
use Rattle.std.proofs.lemmas.Bool.Decides.{nat_tests, Decides-by_and, not_from_Decides}
use Rattle.ts_parser.specs.declared.kinds.TokenType.{TokenType}
use Rattle.ts_parser.specs.declared.kinds.TokenType.TheVariants.{Asciiword}
use Rattle.ts_parser.specs.Letters.{IsWordLetter, is_word_letter, is_word_byte}
use Rattle.ts_parser.specs.Words.{IsNoAsciiLetter, RunKind, uint, numword, asciiword, word, PartKind, ascii_part}
use Rattle.ts_parser.specs.Words.{letter_part, digit_part, WholeKind, ascii_whole, letter_whole, digit_whole}
use Rattle.ts_parser.specs.WordForms.{run_kind, part_kind, whole_kind}
use Rattle.ts_parser.proofs.ByteTests.{tells_digit, tells_ascii, tells_letter, denied, all_test, test_all, any_test}
use Rattle.ts_parser.proofs.ByteTests.{test_any}
use Rattle.ts_parser.proofs.Refined.{all_refine, all_not, any_refine, any_weaker, not_all, all_fails, any_join}

-- ── bytes ──
abbrev no_ascii : ℕ → Bool
no_ascii c = not (is_ascii_alphabetic c)

no_ascii_test : (c : ℕ) → IsNoAsciiLetter c → no_ascii c ≡ true
no_ascii_test c h = ap not (denied (is_ascii_alphabetic c) (tells_ascii c) h)

test_no_ascii : (c : ℕ) → no_ascii c ≡ true → IsNoAsciiLetter c
test_no_ascii c h = not_from_Decides (is_ascii_alphabetic c) (tells_ascii c) (not_by (is_ascii_alphabetic c) h)
  where
    not_by : (b : Bool) → not b ≡ true → b ≡ false
    not_by true e = sym e
    not_by false e = refl

letter_or_digit : (c : ℕ) → is_word_byte c ≡ true → is_ascii_digit c ≡ false → is_word_letter c ≡ true
letter_or_digit c h e = grind (arith, nat_tests)

letter_no_digit : (c : ℕ) → is_word_letter c ≡ true → is_ascii_digit c ≡ false
letter_no_digit c h = grind (arith, nat_tests)

ascii_no_digit : (c : ℕ) → is_ascii_alphabetic c ≡ true → is_ascii_digit c ≡ false
ascii_no_digit c h = grind (arith, nat_tests)

ascii_no_wide : (c : ℕ) → is_ascii_alphabetic c ≡ true → nat_lt 127 c ≡ false
ascii_no_wide c h = grind (arith, nat_tests)

letter_wide : (c : ℕ) → is_word_letter c ≡ true → no_ascii c ≡ true → nat_lt 127 c ≡ true
letter_wide c h e = grind (arith, nat_tests)

letter_ascii : (c : ℕ) → is_word_letter c ≡ true → nat_lt 127 c ≡ false → is_ascii_alphabetic c ≡ true
letter_ascii c h e = grind (arith, nat_tests)

wide_no_ascii : (c : ℕ) → nat_lt 127 c ≡ true → no_ascii c ≡ true
wide_no_ascii c h = grind (arith, nat_tests)

no_ascii_fails : (c : ℕ) → no_ascii c ≡ true → is_ascii_alphabetic c ≡ false
no_ascii_fails c h = grind (arith, nat_tests)

-- ── a run ──
pub run_complete : (u : List ℕ) (k : TokenType) → 0 < length u → RunKind u k → run_kind u ≡ k
run_complete [] k s h = absurd (omega (arith, s))
run_complete (c ∷ u) k s (uint _ h) = rw (all_test is_ascii_digit IsAsciiDigit tells_digit (c ∷ u) h) refl
run_complete (c ∷ u) k s (numword _ h l) =
    let a = all_fails is_ascii_digit is_word_letter letter_no_digit (c ∷ u)
    (any_test is_word_letter IsWordLetter (λ x. (tells_letter x).1) (c ∷ u) l) in
    let b = any_test is_ascii_digit IsAsciiDigit (λ x. (tells_digit x).1) (c ∷ u) h in
    rw (a, b) refl
run_complete (c ∷ u) k s (asciiword _ h) =
    let a = all_test is_ascii_alphabetic IsAsciiAlphabetic tells_ascii (c ∷ u) h in
    let b = all_not is_ascii_alphabetic is_ascii_digit ascii_no_digit (c ∷ u) a in
    let e = (or_parts (is_ascii_digit c) (list_any is_ascii_digit u) b).0 in
    let f : list_all is_ascii_digit (c ∷ u) ≡ false = rw e refl in
    rw (f, b, a) refl
run_complete (c ∷ u) k s (word _ h l) =
    let a = all_test is_word_letter IsWordLetter tells_letter (c ∷ u) h in
    let b = all_not is_word_letter is_ascii_digit letter_no_digit (c ∷ u) a in
    let e = (or_parts (is_ascii_digit c) (list_any is_ascii_digit u) b).0 in
    let f : list_all is_ascii_digit (c ∷ u) ≡ false = rw e refl in
    let g = all_fails is_ascii_alphabetic no_ascii no_ascii_fails (c ∷ u)
    (any_test no_ascii IsNoAsciiLetter no_ascii_test (c ∷ u) l) in
    rw (f, b, g) refl

run_by : (u : List ℕ) → list_all is_word_byte u ≡ true → (a b d : Bool) → list_all is_ascii_digit u ≡ a
    → list_any is_ascii_digit u ≡ b → list_all is_ascii_alphabetic u ≡ d → RunKind u (run_kind u)
run_by u h true b d e f g = rw e (uint u (test_all is_ascii_digit IsAsciiDigit tells_digit u e))
run_by u h false true d e f g =
    let l = any_refine is_word_byte (λ c. not (is_ascii_digit c)) is_word_letter (λ c x y. grind (arith, nat_tests)) u h
    (not_all is_ascii_digit u e) in
    rw (e, f) (numword u (test_any is_ascii_digit IsAsciiDigit (λ x. (tells_digit x).0) u f)
    (test_any is_word_letter IsWordLetter (λ x. (tells_letter x).0) u l))
run_by u h false false true e f g =
    rw (e, f, g) (asciiword u (test_all is_ascii_alphabetic IsAsciiAlphabetic tells_ascii u g))
run_by u h false false false e f g =
    let l = all_refine is_word_byte is_ascii_digit is_word_letter letter_or_digit u h f in
    rw (e, f, g) (word u (test_all is_word_letter IsWordLetter tells_letter u l)
    (test_any no_ascii IsNoAsciiLetter test_no_ascii u (not_all is_ascii_alphabetic u g)))

pub run_sound : (u : List ℕ) → list_all is_word_byte u ≡ true → RunKind u (run_kind u)
run_sound u h =
    run_by u h (list_all is_ascii_digit u) (list_any is_ascii_digit u) (list_all is_ascii_alphabetic u) refl refl refl

-- ── a part ──
pub part_complete : (u : List ℕ) (k : TokenType) → PartKind u k → part_kind u ≡ k
part_complete u k (ascii_part _ h) =
    let a = all_test is_ascii_alphabetic IsAsciiAlphabetic tells_ascii u h in
    let b = all_not is_ascii_alphabetic is_ascii_digit ascii_no_digit u a in
    rw (b, a) refl
part_complete u k (letter_part _ h l) =
    let b = all_not is_word_letter is_ascii_digit letter_no_digit u
    (all_test is_word_letter IsWordLetter tells_letter u h) in
    let g =
    all_fails is_ascii_alphabetic no_ascii no_ascii_fails u (any_test no_ascii IsNoAsciiLetter no_ascii_test u l) in
    rw (b, g) refl
part_complete u k (digit_part _ h) = rw (any_test is_ascii_digit IsAsciiDigit (λ x. (tells_digit x).1) u h) refl

part_by : (u : List ℕ) → list_all is_word_byte u ≡ true → (b d : Bool) → list_any is_ascii_digit u ≡ b
    → list_all is_ascii_alphabetic u ≡ d → PartKind u (part_kind u)
part_by u h true d f g = rw f (digit_part u (test_any is_ascii_digit IsAsciiDigit (λ x. (tells_digit x).0) u f))
part_by u h false true f g = rw (f, g) (ascii_part u (test_all is_ascii_alphabetic IsAsciiAlphabetic tells_ascii u g))
part_by u h false false f g =
    let l = all_refine is_word_byte is_ascii_digit is_word_letter letter_or_digit u h f in
    rw (f, g) (letter_part u (test_all is_word_letter IsWordLetter tells_letter u l)
    (test_any no_ascii IsNoAsciiLetter test_no_ascii u (not_all is_ascii_alphabetic u g)))

pub part_sound : (u : List ℕ) → list_all is_word_byte u ≡ true → PartKind u (part_kind u)
part_sound u h = part_by u h (list_any is_ascii_digit u) (list_all is_ascii_alphabetic u) refl refl

-- ── a hyphen word ──
alls_test : (p : ℕ → Bool) (P : ℕ → Type 0) → ((c : ℕ) → Decides (p c) (P c)) → (us : List (List ℕ)) → All (All P) us
    → list_all (list_all p) us ≡ true
alls_test p P d us h = (Decides-by_and (list_all p) (All P) (list_all (list_all p))
    (λ w. (test_all p P d w, all_test p P d w)) refl (λ _ _. refl) us).1 h

test_alls : (p : ℕ → Bool) (P : ℕ → Type 0) → ((c : ℕ) → Decides (p c) (P c)) → (us : List (List ℕ))
    → list_all (list_all p) us ≡ true → All (All P) us
test_alls p P d us h = (Decides-by_and (list_all p) (All P) (list_all (list_all p))
    (λ w. (test_all p P d w, all_test p P d w)) refl (λ _ _. refl) us).0 h

pub whole_complete : (us : List (List ℕ)) (k : TokenType) → WholeKind us k → whole_kind (join_with_byte 45 us) ≡ k
whole_complete us k (ascii_whole _ h) =
    let a = alls_test is_ascii_alphabetic IsAsciiAlphabetic tells_ascii us h in
    let b : list_any is_ascii_digit (join_with_byte 45 us) ≡ false =
    any_join is_ascii_digit 45 refl us ∙ all_not (list_all is_ascii_alphabetic) (list_any is_ascii_digit)
    (all_not is_ascii_alphabetic is_ascii_digit ascii_no_digit) us a in
    let w : list_any (nat_lt 127) (join_with_byte 45 us) ≡ false =
    any_join (nat_lt 127) 45 refl us ∙ all_not (list_all is_ascii_alphabetic) (list_any (nat_lt 127))
    (all_not is_ascii_alphabetic (nat_lt 127) ascii_no_wide) us a in
    rw (b, w) refl
whole_complete us k (letter_whole _ h l) =
    let a = alls_test is_word_letter IsWordLetter tells_letter us h in
    let n = any_test (list_any no_ascii) (Any IsNoAsciiLetter) (any_test no_ascii IsNoAsciiLetter no_ascii_test) us l in
    let b : list_any is_ascii_digit (join_with_byte 45 us) ≡ false =
    any_join is_ascii_digit 45 refl us ∙ all_not (list_all is_word_letter) (list_any is_ascii_digit)
    (all_not is_word_letter is_ascii_digit letter_no_digit) us a in
    let w : list_any (nat_lt 127) (join_with_byte 45 us) ≡ true =
    any_join (nat_lt 127) 45 refl us ∙ any_refine (list_all is_word_letter) (list_any no_ascii) (list_any (nat_lt 127))
    (any_refine is_word_letter no_ascii (nat_lt 127) letter_wide) us a n in
    rw (b, w) refl
whole_complete us k (digit_whole _ h) =
    let b : list_any is_ascii_digit (join_with_byte 45 us) ≡ true =
    any_join is_ascii_digit 45 refl us ∙ any_test (list_any is_ascii_digit) (Any IsAsciiDigit)
    (any_test is_ascii_digit IsAsciiDigit (λ x. (tells_digit x).1)) us h in
    rw b refl

whole_by : (us : List (List ℕ)) → list_all (list_all is_word_byte) us ≡ true → (b d : Bool)
    → list_any is_ascii_digit (join_with_byte 45 us) ≡ b → list_any (nat_lt 127) (join_with_byte 45 us) ≡ d
    → WholeKind us (whole_kind (join_with_byte 45 us))
whole_by us h true d f g =
    let a = sym (any_join is_ascii_digit 45 refl us) ∙ f in
    rw f (digit_whole us (test_any (list_any is_ascii_digit) (Any IsAsciiDigit)
    (test_any is_ascii_digit IsAsciiDigit (λ x. (tells_digit x).0)) us a))
whole_by us h false true f g =
    let a = sym (any_join is_ascii_digit 45 refl us) ∙ f in
    let b = sym (any_join (nat_lt 127) 45 refl us) ∙ g in
    let l = all_refine (list_all is_word_byte) (list_any is_ascii_digit) (list_all is_word_letter)
    (all_refine is_word_byte is_ascii_digit is_word_letter letter_or_digit) us h a in
    let n =
    any_weaker (list_any (nat_lt 127)) (list_any no_ascii) (any_weaker (nat_lt 127) no_ascii wide_no_ascii) us b in
    rw (f, g) (letter_whole us (test_alls is_word_letter IsWordLetter tells_letter us l)
    (test_any (list_any no_ascii) (Any IsNoAsciiLetter) (test_any no_ascii IsNoAsciiLetter test_no_ascii) us n))
whole_by us h false false f g =
    let a = sym (any_join is_ascii_digit 45 refl us) ∙ f in
    let b = sym (any_join (nat_lt 127) 45 refl us) ∙ g in
    let l = all_refine (list_all is_word_byte) (list_any is_ascii_digit) (list_all is_word_letter)
    (all_refine is_word_byte is_ascii_digit is_word_letter letter_or_digit) us h a in
    let m = all_refine (list_all is_word_letter) (list_any (nat_lt 127)) (list_all is_ascii_alphabetic)
    (all_refine is_word_letter (nat_lt 127) is_ascii_alphabetic letter_ascii) us l b in
    rw (f, g) (ascii_whole us (test_alls is_ascii_alphabetic IsAsciiAlphabetic tells_ascii us m))

pub whole_sound : (us : List (List ℕ)) → list_all (list_all is_word_byte) us ≡ true
    → WholeKind us (whole_kind (join_with_byte 45 us))
whole_sound us h = whole_by us h (list_any is_ascii_digit (join_with_byte 45 us))
    (list_any (nat_lt 127) (join_with_byte 45 us)) refl refl

-- ── ASCII letters, tried first ──
pub ascii_run : (u : List ℕ) → 0 < length u → list_all is_ascii_alphabetic u ≡ true → run_kind u ≡ Asciiword
ascii_run u s h =
    run_complete u Asciiword s (asciiword u (test_all is_ascii_alphabetic IsAsciiAlphabetic tells_ascii u h))

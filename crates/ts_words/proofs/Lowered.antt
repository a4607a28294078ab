-- A text in lower case is one.
use Rattle.std.proofs.Common.{◌≡◌, ◌<◌, ◌≤◌, ◌⊎◌, inl, inr, ℕ, List, [], ◌∷◌, length, true, refl, sym, subst, arith}
use Rattle.std.specs.Str.{IsUtf8, encode_utf8_all}
use Rattle.std.specs.Char.{IsScalar, encode_utf8, to_ascii_lowercase}
use Rattle.std.specs.Cmp.{first_so, second_so}
use Rattle.std.proofs.Math.Utf8.{scalar, scalars}
use Rattle.std.proofs.lemmas.Str.{IsUtf8-nil, IsUtf8-append, IsUtf8-encode, IsUtf8-from_ascii, encode_ascii}
use Rattle.std.proofs.lemmas.Str.Ascii.{IsAscii-nil, IsAscii-cons, lowercase_ascii, lowercase_is}
use Rattle.std.proofs.lemmas.List.{map-append, length-map}
use Rattle.ts_base.specs.declared.TheConstants.{LONGEST_LEXEME}
use Rattle.ts_base.specs.Lexemes.{IsLexeme}
use Rattle.ts_base.specs.Words.{lower}
use Rattle.ts_base.proofs.Characters.{Each, encode_wide}

-- bytes that stay as they are
stays : (bs : List ℕ) → Each (λ b. to_ascii_lowercase b ≡ b) bs → lower bs ≡ bs
stays [] h = refl
stays (b ∷ bs) h = λ i. h.0 i ∷ stays bs h.1 i

wide_stays : (c : ℕ) → 128 ≤ c → lower (encode_utf8 c) ≡ encode_utf8 c
wide_stays c h =
    let all = encode_wide (λ b. to_ascii_lowercase b ≡ b) c h (λ b k. (lowercase_is b).2 (omega (arith, k))) in
    let same : lower (all.0 ∷ all.1) ≡ all.0 ∷ all.1 = stays (all.0 ∷ all.1) (all.3, all.4) in
    subst (λ l. lower l ≡ l) (sym all.2) same

char_utf8 : (c : ℕ) → IsScalar c → IsUtf8 (lower (encode_utf8 c))
char_utf8 c s =
    let cases : (c < 128) ⊎ (128 ≤ c) = grind arith in
    elim cases [
      | inl h ↦
          (let small = IsAscii-cons (to_ascii_lowercase c) [] (lowercase_ascii c h) IsAscii-nil in
          subst (λ l. IsUtf8 (lower l)) (sym (encode_ascii c h)) (IsUtf8-from_ascii (lower (c ∷ [])) small))
      | inr h ↦ subst IsUtf8 (sym (wide_stays c h)) (IsUtf8-encode c s)
    ]

chars_utf8 : (cs : List ℕ) → scalars cs ≡ true → IsUtf8 (lower (encode_utf8_all cs))
chars_utf8 [] e = IsUtf8-nil
chars_utf8 (c ∷ cs) e =
    let one = first_so (scalar c) (scalars cs) e in
    let others = second_so (scalar c) (scalars cs) e in
    subst IsUtf8 (sym (map-append to_ascii_lowercase (encode_utf8 c) (encode_utf8_all cs)))
    (IsUtf8-append (lower (encode_utf8 c)) (lower (encode_utf8_all cs)) (char_utf8 c one) (chars_utf8 cs others))

pub lower_utf8 : (text : List ℕ) → IsUtf8 text → IsUtf8 (lower text)
lower_utf8 text h = subst (λ t. IsUtf8 (lower t)) h.1.1 (chars_utf8 h.0 h.1.0)

-- a word that is no longer than a lexeme is one in lower case
pub lower_lexeme : (word : List ℕ) → 1 ≤ length word → length word ≤ LONGEST_LEXEME → IsUtf8 word
    → IsLexeme (lower word)
lower_lexeme word some most utf8 = record {
  some = omega (arith, length-map word to_ascii_lowercase, some);
  most = omega (arith, length-map word to_ascii_lowercase, most);
  utf8 = lower_utf8 word utf8;
}

-- Letters and digits of a text, as bytes: a byte from 128 on is part of a letter.
use Rattle.std.specs.Prelude.{◌⊎◌, ℕ, ◌≤◌, List, [], ◌∷◌, Bool, false, ◌||◌, nat_lt}
use Rattle.std.specs.Char.{IsAsciiDigit, IsAsciiAlphabetic, is_ascii_digit, is_ascii_alphabetic}

-- an ASCII letter, or a byte of a character past ASCII
abbrev pub IsWordLetter : ℕ → Type 0
IsWordLetter c = IsAsciiAlphabetic c ⊎ (128 ≤ c)

-- a letter or a digit
abbrev pub IsWordByte : ℕ → Type 0
IsWordByte c = IsWordLetter c ⊎ IsAsciiDigit c

-- no such byte is at the front
abbrev pub StartsWithout : (ℕ → Type 0) → List ℕ → Type 0
StartsWithout P [] = Unit {0}
StartsWithout P (c ∷ u) = P c → ⊥

-- ── the same, as tests ──
abbrev pub is_word_letter : ℕ → Bool
is_word_letter c = is_ascii_alphabetic c || nat_lt 127 c

abbrev pub is_word_byte : ℕ → Bool
is_word_byte c = is_word_letter c || is_ascii_digit c

abbrev pub begins_with : (ℕ → Bool) → List ℕ → Bool
begins_with p [] = false
begins_with p (c ∷ u) = p c

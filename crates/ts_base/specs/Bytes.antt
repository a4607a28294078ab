-- Kinds of bytes that grammars share. Each byte that means something is ASCII, so a byte from 128 on is a part of a
-- longer
-- character, and an ordinary byte wherever that is an ordinary character. A character has the code of its byte.
use Rattle.std.specs.Prelude.{◌≡◌, ◌⊎◌, ℕ, ◌≤◌, List, [], ◌∷◌}
use Rattle.ts_base.specs.declared.Weight.{Weight}
use Rattle.ts_base.specs.declared.Weight.TheVariants.{A, B, C, D}

-- space, tab, line feed, vertical tab, form feed, carriage return
abbrev pub IsWhite : ℕ → Type 0
IsWhite c = (c ≡ 32) ⊎ ((9 ≤ c) × (c ≤ 13))

-- a space or a tab
abbrev pub IsBlank : ℕ → Type 0
IsBlank c = (c ≡ 32) ⊎ (c ≡ 9)

abbrev pub IsDigit : ℕ → Type 0
IsDigit c = (48 ≤ c) × (c ≤ 57)

-- a letter of either case names its weight
abbrev pub IsLetter : ℕ → Weight → Type 0
IsLetter c A = (c ≡ 65) ⊎ (c ≡ 97)
IsLetter c B = (c ≡ 66) ⊎ (c ≡ 98)
IsLetter c C = (c ≡ 67) ⊎ (c ≡ 99)
IsLetter c D = (c ≡ 68) ⊎ (c ≡ 100)

-- no byte of which P holds is at the front
abbrev pub BeginsWithout : (ℕ → Type 0) → List ℕ → Type 0
BeginsWithout P [] = Unit {0}
BeginsWithout P (c ∷ u) = ¬ P c

abbrev pub BeginsWithQuote : List ℕ → Type 0
BeginsWithQuote [] = ⊥
BeginsWithQuote (c ∷ u) = c ≡ 39

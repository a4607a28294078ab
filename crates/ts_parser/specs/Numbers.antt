-- The numbers of a text.
use Rattle.std.specs.Prelude.{◌≡◌, ◌⊎◌, ℕ, ◌<◌, ◌≤◌, List, [], ◌∷◌, ◌++◌, length, Option, Some, None, IfSome}
use Rattle.std.specs.List.{All, join_with_byte}
use Rattle.std.specs.Char.{IsAsciiDigit}
use Rattle.ts_parser.specs.Letters.{IsWordByte, StartsWithout}
use Rattle.ts_parser.specs.declared.kinds.TokenType.{TokenType}
use Rattle.ts_parser.specs.declared.kinds.TokenType.TheVariants.{Sfloat, Version, Float, Int, Uint}

-- `+` or `-`
abbrev pub IsSign : ℕ → Type 0
IsSign c = (c ≡ 43) ⊎ (c ≡ 45)

-- one digit or more
abbrev pub Digits : List ℕ → Type 0
Digits d = (0 < length d) × All IsAsciiDigit d

-- a sign, or nothing
abbrev pub MaybeSign : List ℕ → Type 0
MaybeSign s = (s ≡ []) ⊎ ((c : ℕ) × IsSign c × (s ≡ c ∷ []))

-- digits, or digits, a dot and digits
abbrev pub Mantissa : List ℕ → Type 0
Mantissa m = Digits m ⊎ ((a : List ℕ) × (b : List ℕ) × Digits a × Digits b × (m ≡ a ++ 46 ∷ b))

-- `e` or `E`
abbrev pub IsExponentMark : ℕ → Type 0
IsExponentMark c = (c ≡ 69) ⊎ (c ≡ 101)

-- a number's text, for each type of a number; no other type has any
abbrev pub IsNumber : TokenType → List ℕ → Type 0
IsNumber Uint u = Digits u
IsNumber Int u = (c : ℕ) × (d : List ℕ) × IsSign c × Digits d × (u ≡ c ∷ d)
IsNumber Float u =
    (s : List ℕ) × (a : List ℕ) × (b : List ℕ) × MaybeSign s × Digits a × Digits b × (u ≡ s ++ (a ++ 46 ∷ b))
IsNumber Version u = (gs : List (List ℕ)) × (3 ≤ length gs) × All Digits gs × (u ≡ join_with_byte 46 gs)
IsNumber Sfloat u = (s : List ℕ) × (m : List ℕ) × (e : ℕ) × (t : List ℕ) × (d : List ℕ) × MaybeSign s × Mantissa m
    × IsExponentMark e × MaybeSign t × Digits d
    × (u ≡ s ++ (m ++ e ∷ (t ++ d)))
IsNumber k u = ⊥

abbrev pub last_byte : List ℕ → Option ℕ
last_byte [] = None
last_byte (c ∷ []) = Some c
last_byte (c ∷ d ∷ u) = last_byte (d ∷ u)

-- a sign is only after the text's start or a byte that is neither a letter nor a digit
abbrev pub MayStart : Option ℕ → List ℕ → Type 0
MayStart before u = IfSome before (λ c. IsWordByte c → ⊥) ⊎ StartsWithout IsSign u

-- after a number comes neither a letter, nor a digit, nor a dot with a digit after it
abbrev pub EndsNumber : List ℕ → Type 0
EndsNumber [] = Unit {0}
EndsNumber (c ∷ r) = (IsWordByte c → ⊥) × (c ≡ 46 → StartsWithout IsAsciiDigit r)

-- after the byte `before`, or at the text's start, u is a number, and r follows
pub record NumberAt (before : Option ℕ) (k : TokenType) (u r : List ℕ) : Type 0 where
  pub number : IsNumber k u
  pub starts : MayStart before u
  pub ends : EndsNumber r

-- no number is at the front
abbrev pub NoNumber : Option ℕ → List ℕ → Type 0
NoNumber before rest = (k : TokenType) (u r : List ℕ) → rest ≡ u ++ r → NumberAt before k u r → ⊥

-- no longer number is at the front
abbrev pub IsLongest : Option ℕ → List ℕ → List ℕ → Type 0
IsLongest before rest u = (k : TokenType) (v r : List ℕ) → rest ≡ v ++ r → NumberAt before k v r → length v ≤ length u

-- How the tokens of a text cover it.
use Rattle.std.specs.Prelude.{◌≡◌, ℕ, ◌+◌, ◌*◌, ◌<◌, ◌≤◌, List, [], ◌∷◌, ◌++◌, length, Bool, true, false, IsTrue}
use Rattle.std.specs.List.{All}
use Rattle.ts_parser.specs.declared.kinds.TokenType.{TokenType}
use Rattle.ts_parser.specs.declared.kinds.TokenType.TheVariants.{HwordNumpart, HwordPart, HwordAsciipart, Blank}
use Rattle.ts_parser.specs.declared.iter.Token.{Token}
use Rattle.ts_parser.specs.Kinds.{has_parts}
use Rattle.ts_parser.specs.TokenList.{IsTokenList}

-- no token is empty, and one starts where the other ends, from one offset to another
abbrev pub SideBySide : ℕ → List Token → ℕ → Type 0
SideBySide s [] e = s ≡ e
SideBySide s (t ∷ ts) e = (t.start ≡ s) × (0 < t.length) × SideBySide (s + t.length) ts e

-- a part of a hyphen word, or the blank between two
abbrev pub is_part : TokenType → Bool
is_part HwordNumpart = true
is_part HwordPart = true
is_part HwordAsciipart = true
is_part Blank = true
is_part k = false

-- The tokens lie side by side, from one offset to another. After a hyphen word come its parts, which
-- lie side by side from its start to its end.
pub data Covers : ℕ → List Token → ℕ → Type 0 where
  covered : (s : ℕ) → Covers s [] s
  plain : (s e : ℕ) (t : Token) (ts : List Token) → has_parts t.kind ≡ false → t.start ≡ s → 0 < t.length
      → Covers (s + t.length) ts e → Covers s (t ∷ ts) e
  hyphened : (s e : ℕ) (t : Token) (ps ts : List Token) → has_parts t.kind ≡ true → t.start ≡ s → 0 < t.length
      → All (λ p. IsTrue (is_part p.kind)) ps
      → SideBySide s ps (s + t.length) → Covers (s + t.length) ts e → Covers s (t ∷ (ps ++ ts)) e

-- a text's tokens cover it
abbrev pub TokensCover : Type 0
TokensCover = (text : List ℕ) (ts : List Token) → IsTokenList text ts → Covers 0 ts (length text)

-- a text has at most two tokens a byte
abbrev pub TokensFew : Type 0
TokensFew = (text : List ℕ) (ts : List Token) → IsTokenList text ts → length ts ≤ 2 * length text

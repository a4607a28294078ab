-- Runs of letters and digits, and hyphen words.
use Rattle.std.specs.Prelude.{◌≡◌, ℕ, ◌<◌, ◌≤◌, List, ◌∷◌, ◌++◌, length}
use Rattle.std.specs.List.{All, Any, join_with_byte}
use Rattle.std.specs.Char.{IsAsciiDigit, IsAsciiAlphabetic}
use Rattle.ts_parser.specs.Letters.{IsWordLetter, IsWordByte, StartsWithout}
use Rattle.ts_parser.specs.declared.kinds.TokenType.{TokenType}
use Rattle.ts_parser.specs.declared.kinds.TokenType.TheVariants.{Asciiword, Word, Numword, HwordNumpart, HwordPart}
use Rattle.ts_parser.specs.declared.kinds.TokenType.TheVariants.{HwordAsciipart, Numhword, Asciihword, Hword, Uint}

-- letters and digits, as many as are there
pub record IsRun (u r : List ℕ) : Type 0 where
  pub some : 0 < length u
  pub inner : All IsWordByte u
  pub ends : StartsWithout IsWordByte r

-- not an ASCII letter
abbrev pub IsNoAsciiLetter : ℕ → Type 0
IsNoAsciiLetter c = IsAsciiAlphabetic c → ⊥

pub data RunKind : List ℕ → TokenType → Type 0 where
  uint : (u : List ℕ) → All IsAsciiDigit u → RunKind u Uint
  numword : (u : List ℕ) → Any IsAsciiDigit u → Any IsWordLetter u → RunKind u Numword
  asciiword : (u : List ℕ) → All IsAsciiAlphabetic u → RunKind u Asciiword
  word : (u : List ℕ) → All IsWordLetter u → Any IsNoAsciiLetter u → RunKind u Word

-- letters and digits, with a letter among them
pub record IsLink (u : List ℕ) : Type 0 where
  pub inner : All IsWordByte u
  pub letter : Any IsWordLetter u

pub data PartKind : List ℕ → TokenType → Type 0 where
  ascii_part : (u : List ℕ) → All IsAsciiAlphabetic u → PartKind u HwordAsciipart
  letter_part : (u : List ℕ) → All IsWordLetter u → Any IsNoAsciiLetter u → PartKind u HwordPart
  digit_part : (u : List ℕ) → Any IsAsciiDigit u → PartKind u HwordNumpart

pub data WholeKind : List (List ℕ) → TokenType → Type 0 where
  ascii_whole : (us : List (List ℕ)) → All (All IsAsciiAlphabetic) us → WholeKind us Asciihword
  letter_whole : (us : List (List ℕ)) → All (All IsWordLetter) us → Any (Any IsNoAsciiLetter) us → WholeKind us Hword
  digit_whole : (us : List (List ℕ)) → Any (Any IsAsciiDigit) us → WholeKind us Numhword

-- after a chain comes neither a letter nor a digit, nor a hyphen with a link after it
abbrev pub EndsChain : List ℕ → Type 0
EndsChain r =
    StartsWithout IsWordByte r × ((u q : List ℕ) → r ≡ 45 ∷ (u ++ q) → IsLink u → StartsWithout IsWordByte q → ⊥)

-- two or more links, to be joined by single hyphens, and no more of them
pub record IsChain (us : List (List ℕ)) (r : List ℕ) : Type 0 where
  pub more : 2 ≤ length us
  pub links : All IsLink us
  pub ends : EndsChain r

-- no chain is at the front
abbrev pub NoChain : List ℕ → Type 0
NoChain rest = (us : List (List ℕ)) (r : List ℕ) → rest ≡ join_with_byte 45 us ++ r → IsChain us r → ⊥

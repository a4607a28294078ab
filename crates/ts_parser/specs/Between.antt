-- Where the tokens of a text cut it.
use Rattle.std.specs.Prelude.{ℕ, ◌+◌, List, IsUtf8}
use Rattle.std.specs.List.{All}
use Rattle.std.specs.Str.{IsCharBoundary}
use Rattle.ts_parser.specs.declared.iter.Token.{Token}
use Rattle.ts_parser.specs.TokenList.{IsTokenList}

-- a token starts and ends between characters
abbrev pub IsBetween : List ℕ → Token → Type 0
IsBetween text t = IsCharBoundary text t.start × IsCharBoundary text (t.start + t.length)

-- each token of a text does
abbrev pub TokensBetween : Type 0
TokensBetween = (text : List ℕ) (ts : List Token) → IsUtf8 text → IsTokenList text ts → All (IsBetween text) ts

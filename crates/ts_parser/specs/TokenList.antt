-- The token list of a text.
use Rattle.std.specs.Prelude.{◌≡◌, ◌⊎◌, ℕ, ◌+◌, ◌<◌, List, [], ◌∷◌, ◌++◌, length, take, drop}
use Rattle.std.specs.List.{join_with_byte}
use Rattle.ts_parser.specs.Numbers.{last_byte, NumberAt, NoNumber, IsLongest}
use Rattle.ts_parser.specs.Words.{IsRun, RunKind, PartKind, WholeKind, IsChain, NoChain}
use Rattle.ts_parser.specs.declared.kinds.TokenType.{TokenType}
use Rattle.ts_parser.specs.declared.kinds.TokenType.TheVariants.{Blank}
use Rattle.ts_parser.specs.declared.iter.Token.{Token}

abbrev pub token : TokenType → ℕ → ℕ → Token
token k s n = record { kind = k; start = s; length = n }

-- the parts of a chain from an offset on, with a blank of one hyphen between two
pub data AreChainParts : ℕ → List (List ℕ) → List Token → Type 0 where
  last_part : (s : ℕ) (u : List ℕ) (k : TokenType) → PartKind u k → AreChainParts s (u ∷ []) (token k s (length u) ∷ [])
  more_parts : (s : ℕ) (u v : List ℕ) (us : List (List ℕ)) (k : TokenType) (ts : List Token) → PartKind u k
      → AreChainParts (s + length u + 1) (v ∷ us) ts
      → AreChainParts s (u ∷ v ∷ us) (token k s (length u) ∷ token Blank (s + length u) 1 ∷ ts)

-- A number or a run is after `before`, at the front of `rest`. Each hyphen word begins with a run.
abbrev pub StartsForm : List ℕ → List ℕ → Type 0
StartsForm before rest =
    ((k : TokenType) × (u : List ℕ) × (r : List ℕ) × (rest ≡ u ++ r) × NumberAt (last_byte before) k u r)
    ⊎ ((u : List ℕ) × (r : List ℕ) × (rest ≡ u ++ r) × IsRun u r)

-- The first form that applies after `before`, of number, hyphen word, run and blank, takes the bytes u
-- and gives these tokens; r follows.
pub data Front (before : List ℕ) : List ℕ → List ℕ → List Token → Type 0 where
  number : (k : TokenType) (u r : List ℕ) → NumberAt (last_byte before) k u r → IsLongest (last_byte before) (u ++ r) u
      → Front before u r (token k (length before) (length u) ∷ [])
  chain : (us : List (List ℕ)) (u r : List ℕ) (k : TokenType) (ts : List Token) → u ≡ join_with_byte 45 us
      → IsChain us r
      → NoNumber (last_byte before) (u ++ r) → WholeKind us k → AreChainParts (length before) us ts
      → Front before u r (token k (length before) (length u) ∷ ts)
  run : (u r : List ℕ) (k : TokenType) → IsRun u r → NoNumber (last_byte before) (u ++ r) → NoChain (u ++ r)
      → RunKind u k
      → Front before u r (token k (length before) (length u) ∷ [])
  blank : (u r : List ℕ) → 0 < length u → ((i : ℕ) → i < length u → StartsForm (before ++ take i u) (drop i u ++ r) → ⊥)
      → (r ≡ []) ⊎ StartsForm (before ++ u) r → Front before u r (token Blank (length before) (length u) ∷ [])

-- the tokens of what is after `before`, place after place
pub data AreTokens : List ℕ → List ℕ → List Token → Type 0 where
  none : (before : List ℕ) → AreTokens before [] []
  then : (before u r : List ℕ) (ts us : List Token) → Front before u r ts → AreTokens (before ++ u) r us
      → AreTokens before (u ++ r) (ts ++ us)

abbrev pub IsTokenList : List ℕ → List Token → Type 0
IsTokenList text ts = AreTokens [] text ts

-- Which bytes are no vector's encoding, and where they go wrong: field by field.
use Rattle.std.specs.Prelude.{◌≡◌, ◌≢◌, ℕ, ◌+◌, ◌*◌, ◌^◌, ◌<◌, ◌≤◌, ◌⊎◌, List, [], ◌∷◌, ◌++◌, length, All, AllPairs}
use Rattle.ts_base.specs.declared.TheConstants.{LONGEST_LEXEME, MOST_POSITIONS, SIZE_LIMIT, WEIGHT_UNIT}
use Rattle.ts_base.specs.Lexemes.{IsLexeme, IsBefore}
use Rattle.ts_base.specs.Vectors.{Position, Entry, Vector, IsPosition, IsNormal, content_size}
use Rattle.ts_base.specs.Endian.{little_bytes}
use Rattle.ts_base.specs.Encoding.{position_bytes, IsEncoding}
use Rattle.ts_vector.specs.declared.error.VectorError.{VectorError}
use Rattle.ts_vector.specs.declared.error.VectorError.TheVariants.{Syntax, LexemeTooLong, VectorTooLarge, BadBytes}
use Rattle.ts_vector.specs.declared.error.VectorError.TheVariants.{OutOfMemory}

-- what some fields say: the number of entries, the whole entries, and the next entry as far as it goes
pub data DecodedPart : Type 0 where
  start : DecodedPart
  counted : ℕ → Vector → DecodedPart
  measured : ℕ → Vector → ℕ → DecodedPart
  named : ℕ → Vector → List ℕ → DecodedPart
  placed : ℕ → Vector → List ℕ → ℕ → List Position → DecodedPart

abbrev pub entry_with : List ℕ → List Position → Entry
entry_with l ps = record { lexeme = l; positions = ps }

-- the next field, and what they say with it
pub data Next : DecodedPart → List ℕ → DecodedPart → Type 0 where
  count : (n : ℕ) → n < 2 ^ 32 → Next start (little_bytes 4 n) (counted n [])
  measure : (n k : ℕ) (v : Vector) → length v < n → k < 65536
      → Next (counted n v) (little_bytes 2 k) (measured n v k)
  name : (n k : ℕ) (v : Vector) (l : List ℕ) → length l ≡ k → Next (measured n v k) l (named n v l)
  no_places : (n : ℕ) (v : Vector) (l : List ℕ)
      → Next (named n v l) (little_bytes 2 0) (counted n (v ++ entry_with l [] ∷ []))
  places : (n m : ℕ) (v : Vector) (l : List ℕ) → 0 < m → m < 65536
      → Next (named n v l) (little_bytes 2 m) (placed n v l m [])
  place : (n m : ℕ) (v : Vector) (l : List ℕ) (ps : List Position) (p : Position)
      → p.at < WEIGHT_UNIT → length ps + 1 < m
      → Next (placed n v l m ps) (position_bytes p) (placed n v l m (ps ++ p ∷ []))
  last_place : (n m : ℕ) (v : Vector) (l : List ℕ) (ps : List Position) (p : Position)
      → p.at < WEIGHT_UNIT → length ps + 1 ≡ m
      → Next (placed n v l m ps) (position_bytes p) (counted n (v ++ entry_with l (ps ++ p ∷ []) ∷ []))

-- how many bytes the next field has; none is due after the last entry
pub data Width : DecodedPart → ℕ → Type 0 where
  of_count : Width start 4
  of_length : (n : ℕ) (v : Vector) → length v < n → Width (counted n v) 2
  of_lexeme : (n k : ℕ) (v : Vector) → Width (measured n v k) k
  of_number : (n : ℕ) (v : Vector) (l : List ℕ) → Width (named n v l) 2
  of_place : (n m : ℕ) (v : Vector) (l : List ℕ) (ps : List Position) → Width (placed n v l m ps) 2

-- the lexeme is after all before
abbrev pub IsBehind : Vector → List ℕ → Type 0
IsBehind v l = All (λ e. IsBefore e.lexeme l) v

-- the positions so far
pub record AreRising (ps : List Position) : Type 0 where
  pub valid : All IsPosition ps
  pub rising : AllPairs (λ p q. p.at < q.at) ps

-- a vector begins so: each part within its limits, and the content below the limit. A length and a number of
-- positions count at once
abbrev pub IsBeginning : DecodedPart → Type 0
IsBeginning start = Unit {0}
IsBeginning (counted n v) = IsNormal v × (content_size v < SIZE_LIMIT)
IsBeginning (measured n v k) = (1 ≤ k) × (k ≤ LONGEST_LEXEME) × (content_size v + k < SIZE_LIMIT)
IsBeginning (named n v l) = IsLexeme l × IsBehind v l
IsBeginning (placed n v l m ps) = (m ≤ MOST_POSITIONS)
    × (content_size v + length l + 2 * m < SIZE_LIMIT) × AreRising ps

-- the bytes begin with whole fields of a vector's beginning, which say so much, and the rest follows
pub data ReadsFields (bytes : List ℕ) : DecodedPart → List ℕ → Type 0 where
  begun : ReadsFields bytes start bytes
  field : (p q : DecodedPart) (f rest : List ℕ) → ReadsFields bytes p (f ++ rest) → Next p f q
      → IsBeginning q → ReadsFields bytes q rest

-- after the part: the next field is cut off, or the part is whole and more follows, or with the next field no
-- vector begins so
abbrev pub IsCut : DecodedPart → List ℕ → Type 0
IsCut p rest = (w : ℕ) × Width p w × (length rest < w)

abbrev pub IsSurplus : DecodedPart → List ℕ → Type 0
IsSurplus p rest = (n : ℕ) × (v : Vector) × (p ≡ counted n v) × (length v ≡ n) × (rest ≢ [])

abbrev pub IsWrong : DecodedPart → List ℕ → Type 0
IsWrong p rest = (f : List ℕ) × (more : List ℕ) × (rest ≡ f ++ more) × Width p (length f)
    × ((q : DecodedPart) → Next p f q → ¬ IsBeginning q)

-- The bytes are bad at the first byte of the first field that is wrong or surplus, or at their end where they end
-- too early.
pub record IsBadAt (bytes : List ℕ) (n : ℕ) : Type 0 where
  pub part : DecodedPart
  pub rest : List ℕ
  pub reads : ReadsFields bytes part rest
  pub cause : (IsCut part rest × (n ≡ length bytes))
      ⊎ ((IsSurplus part rest ⊎ IsWrong part rest) × (n + length rest ≡ length bytes))

-- bytes are refused where they are no vector's encoding
abbrev pub EncodingFails : List ℕ → VectorError → Type 0
EncodingFails bytes (Syntax n) = ⊥
EncodingFails bytes (LexemeTooLong n) = ⊥
EncodingFails bytes (VectorTooLarge n) = ⊥
EncodingFails bytes (BadBytes n) = IsBadAt bytes n
EncodingFails bytes OutOfMemory = ⊥

-- and where memory runs out
abbrev pub DecodeFails : List ℕ → VectorError → Type 0
DecodeFails bytes error = EncodingFails bytes error ⊎ (error ≡ OutOfMemory)

-- bytes go wrong at one place, and then they are no encoding
abbrev pub BadPlaceIsOne : Type 0
BadPlaceIsOne = (bytes : List ℕ) (m n : ℕ) → IsBadAt bytes m → IsBadAt bytes n → m ≡ n

abbrev pub BadBytesAreNoEncoding : Type 0
BadBytesAreNoEncoding = (bytes : List ℕ) (n : ℕ) → IsBadAt bytes n → (v : Vector)
    → ¬ IsEncoding bytes v

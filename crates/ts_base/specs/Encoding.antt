-- The encoding of a vector as bytes. Numbers have their little end first.
use Rattle.std.specs.Prelude.{◌≡◌, ℕ, ◌+◌, ◌*◌, ◌<◌, List, ◌++◌, length, sum_by}
use Rattle.std.specs.List.{flat_map}
use Rattle.byteorder.specs.Endian.{little_bytes}
use Rattle.ts_base.specs.declared.TheConstants.{SIZE_LIMIT, WEIGHT_UNIT}
use Rattle.ts_base.specs.declared.Weight.{Weight}
use Rattle.ts_base.specs.declared.Weight.TheVariants.{D, C, B, A}
use Rattle.ts_base.specs.Vectors.{Position, Entry, Vector, IsNormal, content_size}

abbrev pub weight_number : Weight → ℕ
weight_number D = 0
weight_number C = 1
weight_number B = 2
weight_number A = 3

-- a position and its weight in one number
abbrev pub position_number : Position → ℕ
position_number p = weight_number p.weight * WEIGHT_UNIT + p.at

abbrev pub position_bytes : Position → List ℕ
position_bytes p = little_bytes 2 (position_number p)

-- the lexeme's length and its bytes, then the number of positions and each of them
abbrev pub entry_bytes : Entry → List ℕ
entry_bytes e =
    little_bytes 2 (length e.lexeme)
    ++ (e.lexeme ++ (little_bytes 2 (length e.positions) ++ flat_map position_bytes e.positions))

-- the number of lexemes, then each lexeme with its positions
abbrev pub vector_bytes : Vector → List ℕ
vector_bytes v = little_bytes 4 (length v) ++ flat_map entry_bytes v

abbrev pub entry_size : Entry → ℕ
entry_size e = 2 + length e.lexeme + 2 + 2 * length e.positions

-- how many bytes a vector's encoding has
abbrev pub vector_size : Vector → ℕ
vector_size v = 4 + sum_by entry_size v

-- the bytes are the encoding of the vector, which is in normal form and not too large
pub record IsEncoding (bytes : List ℕ) (vector : Vector) : Type 0 where
  pub normal : IsNormal vector
  pub small : content_size vector < SIZE_LIMIT
  pub bytes_of : bytes ≡ vector_bytes vector

-- two vectors in normal form never share an encoding
abbrev pub EncodingTellsVector : Type 0
EncodingTellsVector =
    (v w : Vector) → IsNormal v → IsNormal w → vector_bytes v ≡ vector_bytes w → v ≡ w

abbrev pub EncodingHasSize : Type 0
EncodingHasSize = (v : Vector) → length (vector_bytes v) ≡ vector_size v

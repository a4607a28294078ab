-- What bytes say that were checked before. Of other bytes it means nothing.
use Rattle.std.specs.Prelude.{◌≡◌, ℕ, zero, suc, ◌+◌, ◌*◌, ◌/◌, ◌%◌, ◌<◌, List, [], ◌∷◌, ◌++◌, length, take, drop, All}
use Rattle.std.specs.List.{flat_map}
use Rattle.ts_base.specs.declared.TheConstants.{WEIGHT_UNIT}
use Rattle.ts_base.specs.declared.Weight.{Weight}
use Rattle.ts_base.specs.declared.Weight.TheVariants.{D, C, B, A}
use Rattle.ts_base.specs.Vectors.{Position, Entry, Vector, IsPosition, IsEntry, IsNormal, content_size}
use Rattle.ts_base.specs.Encoding.{position_bytes, entry_bytes}
use Rattle.ts_base.specs.declared.TheConstants.{SIZE_LIMIT}

-- the number in the first two bytes, the little end first
abbrev pub number_told : List ℕ → ℕ
number_told [] = 0
number_told (a ∷ []) = 0
number_told (a ∷ b ∷ r) = b * 256 + a

abbrev pub weight_told : ℕ → Weight
weight_told zero = D
weight_told (suc zero) = C
weight_told (suc (suc zero)) = B
weight_told (suc (suc (suc n))) = A

abbrev pub place_told : ℕ → Position
place_told n = record { at = n % WEIGHT_UNIT; weight = weight_told (n / WEIGHT_UNIT) }

abbrev pub places_told : List ℕ → List Position
places_told [] = []
places_told (a ∷ []) = []
places_told (a ∷ b ∷ r) = place_told (number_told (a ∷ b ∷ [])) ∷ places_told r

-- the lexeme at the front, and what is after it
abbrev pub lexeme_told : List ℕ → List ℕ
lexeme_told r = take (number_told r) (drop 2 r)

abbrev pub behind_lexeme : List ℕ → List ℕ
behind_lexeme r = drop (number_told r) (drop 2 r)

-- the bytes of as many positions as the front says, and what is after them
abbrev pub place_bytes : List ℕ → List ℕ
place_bytes r = take (2 * number_told r) (drop 2 r)

abbrev pub behind_places : List ℕ → List ℕ
behind_places r = drop (2 * number_told r) (drop 2 r)

abbrev pub entry_told : List ℕ → Entry
entry_told r = record { lexeme = lexeme_told r; positions = places_told (place_bytes (behind_lexeme r)) }

-- so many entries
abbrev pub entries_told : ℕ → List ℕ → Vector
entries_told zero r = []
entries_told (suc n) r = entry_told r ∷ entries_told n (behind_places (behind_lexeme r))

-- the bytes are those of these positions
pub record ArePlaces (bytes : List ℕ) (ps : List Position) : Type 0 where
  pub valid : All IsPosition ps
  pub bytes_of : bytes ≡ flat_map position_bytes ps

-- the bytes are those of so many entries of a vector, and these are they
pub record AreEntries (count : ℕ) (bytes : List ℕ) (v : Vector) : Type 0 where
  pub normal : IsNormal v
  pub small : content_size v < SIZE_LIMIT
  pub counted : length v ≡ count
  pub bytes_of : bytes ≡ flat_map entry_bytes v

-- the bytes begin with the entry, and the rest follows
pub record IsFirst (bytes : List ℕ) (e : Entry) (rest : List ℕ) : Type 0 where
  pub valid : IsEntry e
  pub bytes_of : bytes ≡ entry_bytes e ++ rest

-- What one field after the other says to a decoder, whatever came before.
use Rattle.std.specs.Prelude.{◌≡◌, ℕ, ◌-◌, ◌<◌, ◌≤◌, ◌⊎◌, if◌then◌else◌, List, [], ◌∷◌, ◌++◌, length, All, Any, nat_lt}
use Rattle.std.specs.List.{flat_map}
use Rattle.ts_base.specs.Vectors.{Position, Entry, Vector, IsNormal, content_size}
use Rattle.ts_base.specs.Encoding.{entry_bytes, IsEncoding}
use Rattle.ts_vector.specs.Decoded.{DecodedPart, counted, placed, entry_with, AreRising, ReadsFields, IsBadAt}
use Rattle.ts_vector.specs.declared.bytes.Stop.{Stop}
use Rattle.ts_vector.specs.declared.checker.Front.{Front}

-- from the part p with r left, fields lead to the part q with s left
pub record Goes (p : DecodedPart) (r : List ℕ) (q : DecodedPart) (s : List ℕ) : Type 0 where
  pub shorter : length s ≤ length r
  pub on : (bytes : List ℕ) → ReadsFields bytes p r → ReadsFields bytes q s

-- with r left after the part p, the bytes are bad so many bytes before their end
pub record Spoils (p : DecodedPart) (r : List ℕ) (left : ℕ) : Type 0 where
  pub within : left ≤ length r
  pub bad : (bytes : List ℕ) → ReadsFields bytes p r → IsBadAt bytes (length bytes - left)

abbrev pub Stops : DecodedPart → List ℕ → Stop → Type 0
Stops p r stop = Spoils p r stop.left

-- so many bytes are not there
abbrev pub IsShort : ℕ → List ℕ → Stop → Type 0
IsShort n r stop = (stop.left ≡ 0) × (length r < n)

-- after the positions ps of m
abbrev pub behind : ℕ → Vector → List ℕ → ℕ → List Position → DecodedPart
behind n v l m ps =
    if nat_lt (length ps) m then placed n v l m ps else counted n (v ++ entry_with l ps ∷ [])

-- with r left before the first of m positions, they are ps, and s is left
pub record Lists (m : ℕ) (r : List ℕ) (ps : List Position) (s : List ℕ) : Type 0 where
  pub on : (n : ℕ) (v : Vector) (l : List ℕ) → Goes (behind n v l m []) r (behind n v l m ps) s

-- the bytes begin with m positions, and s is left
abbrev pub ListsSome : ℕ → List ℕ → List ℕ → Type 0
ListsSome m r s = (ps : List Position) × (length ps ≡ m) × AreRising ps × Lists m r ps s

abbrev pub ListStops : ℕ → List ℕ → Stop → Type 0
ListStops m r e = (n : ℕ) (v : Vector) (l : List ℕ) → Stops (behind n v l m []) r e

-- the greatest number of rising positions, 0 where there are none
pub record IsLast (ps : List Position) (last : ℕ) : Type 0 where
  pub bound : All (λ p. p.at ≤ last) ps
  pub met : (last ≡ 0) ⊎ Any (λ p. p.at ≡ last) ps

-- the bytes are bad so many bytes before their end
abbrev pub BytesStop : List ℕ → Stop → Type 0
BytesStop bytes stop = (stop.left ≤ length bytes) × IsBadAt bytes (length bytes - stop.left)

-- the lexeme of the last entry, none where there is no entry
pub data IsLastLexeme : Vector → List ℕ → Type 0 where
  no_lexeme : IsLastLexeme [] []
  last_lexeme : (v : Vector) (e : Entry) → IsLastLexeme (v ++ e ∷ []) e.lexeme

-- what the entries so far leave to a decoder: their size and the last lexeme
pub record IsFront (v : Vector) (front : Front) : Type 0 where
  pub normal : IsNormal v
  pub size : front.size ≡ content_size v
  pub last : IsLastLexeme v front.last.now

-- after the entries v the bytes have one more entry, and the front and s are left
abbrev pub Adds : ℕ → Vector → List ℕ → Front → List ℕ → Type 0
Adds n v r front s = (e : Entry) × Goes (counted n v) r (counted n (v ++ e ∷ [])) s
    × IsFront (v ++ e ∷ []) front

-- the bytes are an encoding that has so many entries, with these bytes
abbrev pub IsChecked : List ℕ → ℕ → List ℕ → Type 0
IsChecked bytes count entries = (v : Vector) × IsEncoding bytes v × (length v ≡ count)
    × (entries ≡ flat_map entry_bytes v)

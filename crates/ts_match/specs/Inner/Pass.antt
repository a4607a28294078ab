-- A walk over the entries of a vector, and the places of operands to which it comes.
use Rattle.std.specs.Prelude.{◌≡◌, ◌⊎◌, ℕ, ◌-◌, ◌<◌, ◌≤◌, true, List, ◌∷◌, length, drop, None, Some, slice_index_or}
use Rattle.ts_base.specs.Lexemes.{IsBefore}
use Rattle.ts_base.specs.Vectors.{Vector, Entry}
use Rattle.ts_query.specs.declared.query.Operand.{Operand}
use Rattle.ts_match.specs.declared.pass.Bounds.{Bounds}
use Rattle.ts_match.specs.declared.pass.Side.{Side}
use Rattle.ts_match.specs.declared.pass.Side.TheVariants.{First, End}
use Rattle.ts_match.specs.declared.pass.Walk.{Walk}
use Rattle.ts_match.specs.Meaning.{names}

-- it comes before what the operand names; or before the end of that
abbrev pub IsShort : Operand → Side → List ℕ → Type 0
IsShort o First lexeme = IsBefore lexeme o.lexeme
IsShort o End lexeme = IsBefore lexeme o.lexeme ⊎ (names o lexeme ≡ true)

-- each entry below i comes before it
abbrev pub AreShort : Vector → Operand → Side → ℕ → Type 0
AreShort v o s i = (k : ℕ) (d : Entry) → k < i → IsShort o s (slice_index_or v k d).lexeme

-- the entries below i come before a place of the operand, and no others
pub record Splits (v : Vector) (o : Operand) (s : Side) (i : ℕ) : Type 0 where
  pub within : i ≤ length v
  pub below : AreShort v o s i
  pub above : (k : ℕ) (d : Entry) → i ≤ k → k < length v → ¬ IsShort o s (slice_index_or v k d).lexeme

-- a walk over the vector, of which so many entries are not passed
pub record IsAt (v : Vector) (w : Walk) : Type 0 where
  pub within : w.left ≤ length v
  pub ahead : (l : _) → w.ahead ≡ Some l → (e : Entry) × (drop (length v - w.left) v ≡ e ∷ w.rest) × (l.now ≡ e.lexeme)
  pub at_end : w.ahead ≡ None → w.left ≡ 0
  pub behind : (l : _) → w.behind ≡ Some l
      → (w.left < length v) × ((d : Entry) → (slice_index_or v ((length v - w.left) - 1) d).lexeme ≡ l.now)
  pub fresh : w.behind ≡ None → w.left ≡ length v

-- what is known of where the entries begin and end that the operand names
pub record IsBounds (v : Vector) (o : Operand) (b : Bounds) : Type 0 where
  pub first : (i : ℕ) → b.first ≡ Some i → Splits v o First i
  pub end : (i : ℕ) → b.end ≡ Some i → Splits v o End i

-- of each operand, by its number
abbrev pub AreBounds : Vector → List Operand → List Bounds → Type 0
AreBounds v os bs = (k : ℕ) (o : Operand) (b : Bounds) → k < length os → k < length bs
    → IsBounds v (slice_index_or os k o) (slice_index_or bs k b)

-- Which lexemes of a vector an operand names.
use Rattle.std.specs.Prelude.{◌≡◌, ℕ, ◌+◌, ◌≤◌, ◌==◌, Bool, length, filter}
use Rattle.std.specs.List.{list_any, slice_range}
use Rattle.ts_base.specs.Vectors.{Vector}
use Rattle.ts_query.specs.declared.query.Operand.{Operand}
use Rattle.ts_match.specs.declared.ranges.EntryRange.{EntryRange}
use Rattle.ts_match.specs.declared.ranges.TheConstants.{FARTHEST}
use Rattle.ts_match.specs.Meaning.{names, places}

-- those that it names are side by side
pub record NamesRange (v : Vector) (o : Operand) (found : EntryRange) : Type 0 where
  pub ordered : found.first ≤ found.end
  pub within : found.end ≤ length v
  pub named : filter (λ e. names o e.lexeme) v ≡ slice_range v found.first found.end

-- The operand has a position at its offset from the beginning of a phrase. So that all numbers are natural, the
-- beginning is
-- counted from a place farther back than any phrase reaches; `sum` is that count and the offset together.
abbrev pub stands_at : Operand → Vector → ℕ → Bool
stands_at o v sum = list_any (λ p. p + FARTHEST == sum) (places o v)

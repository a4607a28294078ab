-- Positions that were moved and are kept up to 16383.
use Rattle.std.specs.Prelude.{ℕ, List, map}
use Rattle.ts_base.specs.Vectors.{Position, Entry, Vector}
use Rattle.ts_vector.specs.Normal.{capped}
use Rattle.ts_vector.specs.Changes.{moved_position}

abbrev pub moved_within : ℕ → Position → Position
moved_within n p = capped (moved_position n p)

abbrev pub shifted_within : ℕ → Vector → List Entry
shifted_within n vector =
    map
    (λ entry. record { lexeme = entry.lexeme; positions = map (moved_within n) entry.positions }) vector

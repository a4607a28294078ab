-- A vector in normal form that is too large.
use Rattle.std.specs.Prelude.{◌≡◌, ◌≤◌, ◌^◌, ◌-◌, min}
use Rattle.ts_base.specs.Vectors.{Vector, content_size}
use Rattle.ts_base.specs.declared.TheConstants.{SIZE_LIMIT}
use Rattle.ts_vector.specs.declared.error.VectorError.{VectorError}
use Rattle.ts_vector.specs.declared.error.VectorError.TheVariants.{Syntax, LexemeTooLong, VectorTooLarge, BadBytes}
use Rattle.ts_vector.specs.declared.error.VectorError.TheVariants.{OutOfMemory}

-- a vector in normal form is refused for its size, or where memory runs out
abbrev pub IsOver : Vector → VectorError → Type 0
IsOver vector (Syntax n) = ⊥
IsOver vector (LexemeTooLong n) = ⊥
IsOver vector (VectorTooLarge n) = (n ≡ min (content_size vector) (2 ^ 64 - 1))
    × (SIZE_LIMIT ≤ content_size vector)
IsOver vector (BadBytes n) = ⊥
IsOver vector OutOfMemory = Unit {0}

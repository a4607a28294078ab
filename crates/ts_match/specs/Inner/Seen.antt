-- A vector, whichever way it lies in memory.
use Rattle.ts_base.specs.Vectors.{Vector}
use Rattle.ts_match.specs.declared.seen.Kind.{Kind}
use Rattle.ts_match.specs.declared.seen.Kind.TheVariants.{Listed, Encoded}

-- its entries
abbrev pub entries_of : Kind → Vector
entries_of (Listed vector) = vector.now
entries_of (Encoded vector) = vector.now

-- Lexemes with their positions, as a map has them.
use Rattle.std.specs.Prelude.{ℕ, List, map, Vec}
use Rattle.std.specs.declared.alloc.Global.{Global}
use Rattle.ts_base.specs.Vectors.{Position, Entry}

abbrev pub pair_of : List ℕ × Vec Position Global → Entry
pair_of pair = record { lexeme = pair.0; positions = pair.1.items }

abbrev pub pairs_of : List (List ℕ × Vec Position Global) → List Entry
pairs_of pairs = map pair_of pairs

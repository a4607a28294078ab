use Rattle.std.proofs.Common.{◌≡◌, map, take}
use Rattle.ts_vector.specs.Inner.Building.{rows_of}
use Rattle.ts_vector.proofs.builder.rows.Given as goal

abbrev pub invariant-loop-k : goal.invariant-loop-k
invariant-loop-k l =
    l.columns ≡ rows_of (take l.k l.lexemes) (map (λ list. list.items) (take l.k l.lists))

use Rattle.std.proofs.Common.{map, take}
use Rattle.ts_vector.specs.Inner.Building.{AreGrouped}
use Rattle.ts_vector.proofs.builder.grouped.Given as goal

abbrev pub invariant-loop-occurrence : goal.invariant-loop-occurrence
invariant-loop-occurrence l =
    AreGrouped l.count (take l.occurrence-index l.occurrences) (map (λ list. list.items) l.lists.items)

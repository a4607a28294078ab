use Rattle.std.proofs.Common.{◌≡◌, map, take}
use Rattle.ts_vector.specs.Changes.{weighted}
use Rattle.ts_vector.proofs.changes.with_weight.Given as goal

abbrev pub invariant-loop-position : goal.invariant-loop-position
invariant-loop-position l = l.made.items ≡ map (weighted l.weight) (take l.position-index l.positions)

use Rattle.std.proofs.Common.{◌≡◌, map, take}
use Rattle.ts_vector.specs.Inner.CappedForm.{moved_within}
use Rattle.ts_vector.proofs.changes.later.Given as goal

abbrev pub invariant-loop-position : goal.invariant-loop-position
invariant-loop-position l = l.made.items ≡ map (moved_within l.by) (take l.position-index l.positions)

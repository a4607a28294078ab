use Rattle.std.proofs.Common.{◌-◌, length}
use Rattle.gin_hits.specs.Inner.Near.{AreBelow}
use Rattle.gin_hits.proofs.near.first_from.Given as goal

abbrev pub invariant-loop-at : goal.invariant-loop-at
invariant-loop-at l = AreBelow l.items l.at l.item

abbrev pub decreases-loop-at : goal.decreases-loop-at
decreases-loop-at l = length l.items - l.at

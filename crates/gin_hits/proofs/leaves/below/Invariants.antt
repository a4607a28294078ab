use Rattle.std.proofs.Common.{◌-◌}
use Rattle.gin_hits.specs.Inner.Searching.{IsBetween, keys_of}
use Rattle.gin_hits.proofs.leaves.below.Given as goal

abbrev pub invariant-loop-low : goal.invariant-loop-low
invariant-loop-low g l = IsBetween l.key (keys_of l.entries) l.low l.high

abbrev pub decreases-loop-low : goal.decreases-loop-low
decreases-loop-low g l = l.high - l.low

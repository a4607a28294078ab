use Rattle.std.proofs.Common.{◌-◌, ◌*◌}
use Rattle.core_state.specs.Inner.PeakTrees.{IsReached}
use Rattle.core_state.proofs.peaks.climb.Given as goal

abbrev pub invariant-loop-at : goal.invariant-loop-at
invariant-loop-at l = IsReached l.width l.from l.bound l.tree l.at l.span l.start

abbrev pub decreases-loop-at : goal.decreases-loop-at
decreases-loop-at l = 2 * l.width - l.start

use Rattle.std.proofs.Common.{◌≤◌, get_or}
use Rattle.core_state.specs.Inner.PeakTrees.{IsReached}
use Rattle.core_state.proofs.peaks.descend.Given as goal

abbrev pub invariant-loop-span : goal.invariant-loop-span
invariant-loop-span l = record {
  node : IsReached l.width l.from l.bound l.tree l.at l.span l.start;
  here : l.bound ≤ get_or l.tree l.at 0;
}

abbrev pub decreases-loop-span : goal.decreases-loop-span
decreases-loop-span l = l.span

use Rattle.std.proofs.Common.{◌≡◌, ◌<◌, drop}
use Rattle.core_state.specs.Inner.PeakTrees.{ArePeaksBut}
use Rattle.core_state.proofs.peaks.settle.Given as goal

abbrev pub invariant-loop-at : goal.invariant-loop-at
invariant-loop-at l = record {
  below : l.at < l.width;
  peaks : ArePeaksBut l.at l.width l.tree;
  row : drop l.width l.tree ≡ drop l.width l.initial.tree;
}

abbrev pub decreases-loop-at : goal.decreases-loop-at
decreases-loop-at l = l.at

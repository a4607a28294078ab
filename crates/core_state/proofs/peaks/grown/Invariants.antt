use Rattle.std.proofs.Common.{◌<◌, ◌≤◌, ◌-◌}
use Rattle.core_state.specs.Inner.PeakTrees.{IsWidth}
use Rattle.core_state.proofs.peaks.grown.Given as goal

abbrev pub invariant-loop-grown : goal.invariant-loop-grown
invariant-loop-grown l = record {
  width : IsWidth l.grown;
  some : 0 < l.grown;
  more : l.width ≤ l.grown;
}

abbrev pub decreases-loop-grown : goal.decreases-loop-grown
decreases-loop-grown l = l.n - l.grown

use Rattle.std.proofs.Common.{◌-◌}
use Rattle.entry_tree.specs.Inner.Searching.{IsBetween, marks_shown}
use Rattle.entry_tree.proofs.searching.below.Given as goal

abbrev pub invariant-loop-low : goal.invariant-loop-low
invariant-loop-low g l = IsBetween l.key (marks_shown l.marks) l.low l.high

abbrev pub decreases-loop-low : goal.decreases-loop-low
decreases-loop-low g l = l.high - l.low

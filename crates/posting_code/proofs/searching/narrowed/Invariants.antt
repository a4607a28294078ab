use Rattle.std.proofs.Common.{◌-◌}
use Rattle.posting_code.specs.Inner.Windows.{IsWindow}
use Rattle.posting_code.proofs.searching.narrowed.Given as goal

abbrev pub invariant-loop-high : goal.invariant-loop-high
invariant-loop-high l = IsWindow l.items l.item l.low l.high

abbrev pub decreases-loop-high : goal.decreases-loop-high
decreases-loop-high l = l.high - l.low

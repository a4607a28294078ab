use Rattle.std.proofs.Common.{◌-◌}
use Rattle.ts_match.proofs.Searches.{Between}
use Rattle.ts_match.proofs.ranges.has_position.Given as goal

abbrev pub invariant-loop-low : goal.invariant-loop-low
invariant-loop-low l = Between l.low l.high l.at l.positions

abbrev pub decreases-loop-low : goal.decreases-loop-low
decreases-loop-low l = l.high - l.low

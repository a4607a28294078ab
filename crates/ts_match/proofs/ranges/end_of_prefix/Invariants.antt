use Rattle.std.proofs.Common.{◌-◌}
use Rattle.ts_match.proofs.Lexemes.{Begun}
use Rattle.ts_match.proofs.ranges.end_of_prefix.Given as goal

abbrev pub invariant-loop-low : goal.invariant-loop-low
invariant-loop-low l = Begun l.vector l.prefix l.first l.low l.high

abbrev pub decreases-loop-low : goal.decreases-loop-low
decreases-loop-low l = l.high - l.low

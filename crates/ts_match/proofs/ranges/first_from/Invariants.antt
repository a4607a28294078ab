use Rattle.std.proofs.Common.{◌-◌}
use Rattle.ts_match.proofs.Lexemes.{Halved}
use Rattle.ts_match.proofs.ranges.first_from.Given as goal

abbrev pub invariant-loop-low : goal.invariant-loop-low
invariant-loop-low l = Halved l.vector l.lexeme l.low l.high

abbrev pub decreases-loop-low : goal.decreases-loop-low
decreases-loop-low l = l.high - l.low

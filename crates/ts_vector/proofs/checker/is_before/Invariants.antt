use Rattle.ts_vector.proofs.ByteOrder.{goes_on}
use Rattle.ts_vector.proofs.checker.is_before.Given as goal

abbrev pub invariant-loop-i : goal.invariant-loop-i
invariant-loop-i l = goes_on l.first l.second l.i

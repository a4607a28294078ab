use Rattle.std.proofs.Common.{◌+◌, ◌-◌, length}
use Rattle.ts_vector.proofs.Joining.{Merged}
use Rattle.ts_vector.proofs.merge.merged.Given as goal

abbrev pub invariant-loop-i : goal.invariant-loop-i
invariant-loop-i l = Merged l.first l.second l.by l.i l.j l.out

abbrev pub decreases-loop-i : goal.decreases-loop-i
decreases-loop-i l = (length l.first - l.i) + (length l.second - l.j)

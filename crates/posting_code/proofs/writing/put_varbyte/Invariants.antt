use Rattle.posting_code.proofs.Loops.{IsPutting}
use Rattle.posting_code.proofs.writing.put_varbyte.Given as goal

abbrev pub invariant-loop-high : goal.invariant-loop-high
invariant-loop-high l = IsPutting l.initial.out.items l.out.items l.n l.high

abbrev pub decreases-loop-high : goal.decreases-loop-high
decreases-loop-high l = l.high

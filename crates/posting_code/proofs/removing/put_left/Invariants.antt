use Rattle.std.proofs.Common.{length}
use Rattle.posting_code.proofs.Leaving.{IsLeaving}
use Rattle.posting_code.proofs.removing.put_left.Given as goal

abbrev pub invariant-loop-item : goal.invariant-loop-item
invariant-loop-item l = IsLeaving l.initial.out.items l.list l.dead l.out.items l.before l.rest l.last l.count

abbrev pub decreases-loop-item : goal.decreases-loop-item
decreases-loop-item l = length l.rest

use Rattle.std.proofs.Common.{length}
use Rattle.posting_code.proofs.Cutting.{IsTried}
use Rattle.posting_code.proofs.dividing.last_within.Given as goal

abbrev pub invariant-loop-item : goal.invariant-loop-item
invariant-loop-item l = IsTried l.most l.list l.found l.last l.rest

abbrev pub decreases-loop-item : goal.decreases-loop-item
decreases-loop-item l = length l.rest

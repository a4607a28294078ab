use Rattle.std.proofs.Common.{length}
use Rattle.posting_code.proofs.Cutting.{IsUnder}
use Rattle.posting_code.proofs.dividing.first_from.Given as goal

abbrev pub invariant-loop-item : goal.invariant-loop-item
invariant-loop-item l = IsUnder l.least l.list l.last l.rest

abbrev pub decreases-loop-item : goal.decreases-loop-item
decreases-loop-item l = length l.rest

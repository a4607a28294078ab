use Rattle.std.proofs.Common.{length}
use Rattle.posting_code.proofs.Places.{IsPassing}
use Rattle.posting_code.proofs.walking.skip_below.Given as goal

abbrev pub invariant-loop-item : goal.invariant-loop-item
invariant-loop-item l = IsPassing l.fn.bound l.fn.place.last l.fn.place.rest.now l.last l.rest

abbrev pub decreases-loop-item : goal.decreases-loop-item
decreases-loop-item l = length l.rest

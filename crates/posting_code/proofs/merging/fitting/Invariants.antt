use Rattle.posting_code.proofs.Taking.{IsTaking}
use Rattle.posting_code.proofs.merging.fitting.Given as goal

abbrev pub invariant-loop-k : goal.invariant-loop-k
invariant-loop-k l = IsTaking l.list l.items l.most l.k l.place.last l.taken.last l.taken.size l.place.rest.now

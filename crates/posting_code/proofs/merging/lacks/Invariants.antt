use Rattle.posting_code.proofs.Uniting.{IsLacking}
use Rattle.posting_code.proofs.merging.lacks.Given as goal

abbrev pub invariant-loop-item : goal.invariant-loop-item
invariant-loop-item l = IsLacking l.list l.items l.item-index l.place.last l.place.rest.now

use Rattle.posting_code.proofs.Uniting.{IsMerging}
use Rattle.posting_code.proofs.merging.put_merged.Given as goal

abbrev pub invariant-loop-item : goal.invariant-loop-item
invariant-loop-item l =
    IsMerging l.initial.out.items l.list l.items l.out.items l.item-index l.place.last l.last l.place.rest.now

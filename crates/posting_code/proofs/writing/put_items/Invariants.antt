use Rattle.posting_code.proofs.Loops.{IsListing}
use Rattle.posting_code.proofs.writing.put_items.Given as goal

abbrev pub invariant-loop-item : goal.invariant-loop-item
invariant-loop-item l = IsListing l.initial.out.items l.out.items l.items l.item-index l.last

use Rattle.gin_vacuum.proofs.WalkCode.{AreOthersTo}
use Rattle.gin_vacuum.proofs.unlinked.left_out.Given as goal

abbrev pub invariant-loop-item : goal.invariant-loop-item
invariant-loop-item l = AreOthersTo l.dead l.met.items l.item-index l.items.items

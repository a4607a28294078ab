use Rattle.std.proofs.Common.{length}
use Rattle.core_state.proofs.TakenItems.{TakesSoFar}
use Rattle.core_state.proofs.tree_items.takes.Given as goal

abbrev pub invariant-loop-next : goal.invariant-loop-next
invariant-loop-next l = TakesSoFar l.high l.old l.new l.was l.last l.rest l.item l.more

abbrev pub decreases-loop-next : goal.decreases-loop-next
decreases-loop-next l = length l.rest

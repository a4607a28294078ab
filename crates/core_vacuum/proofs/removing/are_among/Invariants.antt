use Rattle.std.proofs.Common.{length}
use Rattle.core_vacuum.proofs.AmongLists.{AmongSoFar}
use Rattle.core_vacuum.proofs.removing.are_among.Given as goal

abbrev pub invariant-loop-next : goal.invariant-loop-next
invariant-loop-next l = AmongSoFar l.new l.old l.left l.last l.was l.item

abbrev pub decreases-loop-next : goal.decreases-loop-next
decreases-loop-next l = length l.was

use Rattle.core_vacuum.proofs.LostChildren.{NoneBefore}
use Rattle.core_vacuum.proofs.deleting.loses_child.Given as goal

abbrev pub invariant-loop-next : goal.invariant-loop-next
invariant-loop-next l = NoneBefore l.page l.children l.new l.next

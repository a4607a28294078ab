use Rattle.core_vacuum.proofs.LostChildren.{AgreeTo}
use Rattle.core_vacuum.proofs.deleting.are_others.Given as goal

abbrev pub invariant-loop-j : goal.invariant-loop-j
invariant-loop-j l = AgreeTo l.children l.k l.new l.j

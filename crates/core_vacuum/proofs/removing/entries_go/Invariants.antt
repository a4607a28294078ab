use Rattle.core_vacuum.proofs.GoneItems.{GoUpTo}
use Rattle.core_vacuum.proofs.removing.entries_go.Given as goal

abbrev pub invariant-loop-k : goal.invariant-loop-k
invariant-loop-k l = GoUpTo l.old l.new l.k l.less

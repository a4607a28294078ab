use Rattle.posting_tree.proofs.LeftPages.{IsLeftUpTo}
use Rattle.posting_tree.proofs.removing.push_all_left.Given as goal

abbrev pub invariant-loop-k : goal.invariant-loop-k
invariant-loop-k l = IsLeftUpTo l.dead l.entries l.k l.left l.same

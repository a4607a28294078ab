use Rattle.entry_tree.proofs.SplitRule.{IsTrying}
use Rattle.entry_tree.proofs.splitting.last_fitting.Given as goal

abbrev pub invariant-loop-k : goal.invariant-loop-k
invariant-loop-k l = IsTrying l.page.body l.k l.size l.found

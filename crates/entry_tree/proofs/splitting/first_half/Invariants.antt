use Rattle.entry_tree.proofs.SplitRule.{IsBelowHalf}
use Rattle.entry_tree.proofs.splitting.first_half.Given as goal

abbrev pub invariant-loop-k : goal.invariant-loop-k
invariant-loop-k l = IsBelowHalf l.page.body l.k l.size

use Rattle.std.proofs.Common.{◌≡◌, ◌++◌, take}
use Rattle.entry_tree.proofs.splitting.push_children.Given as goal

abbrev pub invariant-loop-k : goal.invariant-loop-k
invariant-loop-k l = take l.from l.children ++ l.part ≡ take l.k l.children

use Rattle.std.proofs.Common.{◌≡◌, ◌++◌, take}
use Rattle.entry_tree.proofs.splitting.push_entries.Given as goal

abbrev pub invariant-loop-k : goal.invariant-loop-k
invariant-loop-k l = take l.from l.entries ++ l.part ≡ take l.k l.entries

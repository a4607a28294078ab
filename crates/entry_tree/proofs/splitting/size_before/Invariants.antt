use Rattle.std.proofs.Common.{◌≡◌, length}
use Rattle.entry_tree.specs.Inner.Parts.{bytes_before}
use Rattle.entry_tree.proofs.splitting.size_before.Given as goal

abbrev pub invariant-loop-j : goal.invariant-loop-j
invariant-loop-j l = l.size ≡ length (bytes_before l.page.body l.j)

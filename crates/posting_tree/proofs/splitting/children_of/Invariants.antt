use Rattle.std.proofs.Common.{◌≡◌, take}
use Rattle.posting_tree.proofs.splitting.children_of.Given as goal

abbrev pub invariant-loop-child : goal.invariant-loop-child
invariant-loop-child l = l.children ≡ take l.child-index l.part

use Rattle.std.proofs.Common.{take}
use Rattle.gin_place.specs.Inner.Dividing.{PassedItem}
use Rattle.gin_place.proofs.posting_splits.divides.Given as goal

abbrev pub invariant-loop-child : goal.invariant-loop-child
invariant-loop-child l = PassedItem l.named (take l.child-index l.children) l.page l.mid

use Rattle.std.proofs.Common.{take}
use Rattle.gin_place.specs.Inner.Dividing.{Passed}
use Rattle.gin_place.proofs.splitting.divides.Given as goal

abbrev pub invariant-loop-k : goal.invariant-loop-k
invariant-loop-k g l = Passed l.named (take l.k l.children) l.page l.mid

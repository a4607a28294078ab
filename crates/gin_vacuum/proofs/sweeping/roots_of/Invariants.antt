use Rattle.std.proofs.Common.{take}
use Rattle.gin_vacuum.specs.Inner.Reading.{AreRoots}
use Rattle.gin_vacuum.proofs.sweeping.roots_of.Given as goal

abbrev pub invariant-loop-k : goal.invariant-loop-k
invariant-loop-k l = AreRoots (take l.k l.entries) l.roots.items

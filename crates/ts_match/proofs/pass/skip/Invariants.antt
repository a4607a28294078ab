use Rattle.std.proofs.Common.{◌-◌, length}
use Rattle.ts_base.specs.Vectors.{Vector, IsNormal}
use Rattle.ts_match.specs.Inner.Pass.{AreShort, IsAt}
use Rattle.ts_match.proofs.pass.skip.Given as goal

pub record SoFar (l : goal.Live-loop-side) : Type 0 where
  pub at : (v : Vector) → IsAt v l.fn.walk → IsAt v l.walk
  pub short : (v : Vector) → IsNormal v → IsAt v l.fn.walk → AreShort v l.operand l.side (length v - l.fn.walk.left)
      → AreShort v l.operand l.side (length v - l.walk.left)

abbrev pub invariant-loop-side : goal.invariant-loop-side
invariant-loop-side l = SoFar l

abbrev pub decreases-loop-side : goal.decreases-loop-side
decreases-loop-side l = l.walk.left

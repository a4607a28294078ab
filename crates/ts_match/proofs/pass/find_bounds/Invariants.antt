use Rattle.ts_match.specs.Inner.Pass.{IsAt, AreBounds}
use Rattle.ts_match.proofs.pass.find_bounds.Given as goal

pub record SoFar (l : goal.Live-loop-mark) : Type 0 where
  pub at : IsAt l.vector l.walk
  pub known : AreBounds l.vector l.operands l.bounds.items

abbrev pub invariant-loop-mark : goal.invariant-loop-mark
invariant-loop-mark l = SoFar l

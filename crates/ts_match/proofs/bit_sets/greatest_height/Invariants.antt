use Rattle.std.proofs.Common.{◌≤◌, drop}
use Rattle.std.specs.Prelude.{max}
use Rattle.ts_match.specs.Inner.Heights.{highest}
use Rattle.ts_match.proofs.bit_sets.greatest_height.Given as goal

pub record SoFar (l : goal.Live-loop-step) : Type 0 where
  pub near : l.height ≤ l.step-index
  pub below : l.height ≤ l.greatest
  pub far : highest l.steps 0 ≤ max l.greatest (highest (drop l.step-index l.steps) l.height)

abbrev pub invariant-loop-step : goal.invariant-loop-step
invariant-loop-step l = SoFar l

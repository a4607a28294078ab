use Rattle.std.proofs.Common.{◌≡◌}
use Rattle.std.specs.Prelude.{IfSome}
use Rattle.ts_match.specs.Inner.Phrases.{IsNeeded}
use Rattle.ts_match.proofs.phrase.rarest.Given as goal

pub record Best (l : goal.Live-loop-step) : Type 0 where
  pub best : IfSome l.best (IsNeeded l.phrase.steps.now)
  pub same : l.step-items ≡ l.phrase.steps.now

abbrev pub invariant-loop-step : goal.invariant-loop-step
invariant-loop-step l = Best l

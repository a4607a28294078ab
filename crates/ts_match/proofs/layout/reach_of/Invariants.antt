use Rattle.std.proofs.Common.{◌≡◌, ℕ, ◌<◌, ◌≤◌, ◌⊎◌, get_or}
use Rattle.std.specs.Prelude.{Contains}
use Rattle.ts_match.specs.declared.ranges.TheConstants.{FARTHEST}
use Rattle.ts_match.specs.declared.work.Step.{Step}
use Rattle.ts_match.specs.Inner.Plan.{offset_of}
use Rattle.ts_match.proofs.layout.reach_of.Given as goal

pub record SoFar (l : goal.Live-loop-step) : Type 0 where
  pub near : (i : ℕ) (d : Step) → i < l.step-index → offset_of (get_or l.phrase.steps.now i d).place ≤ l.reach
  pub far : l.reach ≤ FARTHEST
  pub some : (l.reach ≡ 0) ⊎ ((s : Step) × Contains l.phrase.steps.now s × (offset_of s.place ≡ l.reach))
  pub same : l.step-items ≡ l.phrase.steps.now

abbrev pub invariant-loop-step : goal.invariant-loop-step
invariant-loop-step l = SoFar l

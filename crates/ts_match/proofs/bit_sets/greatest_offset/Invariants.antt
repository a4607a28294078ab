use Rattle.std.proofs.Common.{ℕ, ◌<◌, ◌≤◌, get_or}
use Rattle.ts_match.specs.declared.work.Step.{Step}
use Rattle.ts_match.specs.Inner.Plan.{offset_of}
use Rattle.ts_match.proofs.bit_sets.greatest_offset.Given as goal

abbrev pub invariant-loop-step : goal.invariant-loop-step
invariant-loop-step l = (i : ℕ) (d : Step) → i < l.step-index → offset_of (get_or l.steps i d).place ≤ l.reach

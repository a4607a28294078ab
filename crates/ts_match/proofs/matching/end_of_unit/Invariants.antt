use Rattle.std.proofs.Common.{ℕ, ◌-◌, ◌<◌, ◌≤◌, length, get_or}
use Rattle.ts_match.specs.declared.work.Step.{Step}
use Rattle.ts_match.specs.Inner.Phrases.{StandsWithin}
use Rattle.ts_match.proofs.matching.end_of_unit.Given as goal

pub record SoFar (l : goal.Live-loop-end) : Type 0 where
  pub from : l.fn.from ≤ l.end
  pub within : l.end ≤ length l.steps
  pub inner : (k : ℕ) (d : Step) → l.fn.from ≤ k → k < l.end → StandsWithin (get_or l.steps k d).place

abbrev pub invariant-loop-end : goal.invariant-loop-end
invariant-loop-end l = SoFar l

abbrev pub decreases-loop-end : goal.decreases-loop-end
decreases-loop-end l = length l.steps - l.end

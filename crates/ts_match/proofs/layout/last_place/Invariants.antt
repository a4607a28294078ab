use Rattle.std.proofs.Common.{◌≡◌, ℕ, ◌+◌, ◌*◌, ◌<◌, ◌≤◌, get_or}
use Rattle.ts_match.specs.declared.bit_sets.TheConstants.{WORD}
use Rattle.ts_match.specs.declared.work.Step.{Step}
use Rattle.ts_match.specs.Inner.Phrases.{HasPlaces}
use Rattle.ts_match.proofs.layout.last_place.Given as goal

pub record SoFar (l : goal.Live-loop-step) : Type 0 where
  pub each : (reach count : ℕ) → l.last + reach < WORD * count → (i : ℕ) (d : Step) → i < l.step-index
      → HasPlaces l.phrase.vector.now l.phrase.found.now reach count (get_or l.phrase.steps.now i d)
  pub small : l.last ≤ 16383
  pub same : l.step-items ≡ l.phrase.steps.now

abbrev pub invariant-loop-step : goal.invariant-loop-step
invariant-loop-step l = SoFar l

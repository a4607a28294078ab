use Rattle.std.proofs.Common.{◌≡◌, ℕ, ◌<◌, get_or, vec_len}
use Rattle.ts_match.specs.declared.work.Step.{Step}
use Rattle.ts_match.specs.Inner.Phrases.{HasRange}
use Rattle.ts_match.proofs.matching.find_leaves.Given as goal

pub record SoFar (l : goal.Live-loop-step) : Type 0 where
  pub found : (i : ℕ) (d : Step) → i < l.step-index → HasRange l.vector l.operands l.found.items (get_or l.steps i d)
  pub len : vec_len l.found ≡ vec_len l.fn.found

abbrev pub invariant-loop-step : goal.invariant-loop-step
invariant-loop-step l = SoFar l

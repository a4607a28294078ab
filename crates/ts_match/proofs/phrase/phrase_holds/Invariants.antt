use Rattle.std.proofs.Common.{◌≡◌, ℕ, ◌<◌, get_or, vec_capacity}
use Rattle.ts_query.specs.Queries.{Tree}
use Rattle.ts_match.specs.declared.work.Step.{Step}
use Rattle.ts_match.specs.Inner.Phrases.{IsPhraseOf, HoldsWith}
use Rattle.ts_match.proofs.phrase.phrase_holds.Given as goal

pub record NoneYet (l : goal.Live-loop-step) : Type 0 where
  pub none : (t : Tree) (j : ℕ) (d : Step) → IsPhraseOf l.phrase.operands.now l.phrase.steps.now t → j < l.step-index
      → ¬ HoldsWith l.phrase.vector.now l.phrase.operands.now t (get_or l.phrase.steps.now j d)
  pub same : l.step-items ≡ l.phrase.steps.now
  pub capacity : vec_capacity l.stack ≡ vec_capacity l.fn.stack

abbrev pub invariant-loop-step : goal.invariant-loop-step
invariant-loop-step l = NoneYet l

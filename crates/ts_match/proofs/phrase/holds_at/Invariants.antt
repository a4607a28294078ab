use Rattle.std.proofs.Common.{◌≡◌, ◌≤◌, [], drop, reverse, vec_len, vec_capacity}
use Rattle.ts_match.specs.Inner.Phrases.{leaf_value}
use Rattle.ts_match.proofs.Tables.{run}
use Rattle.ts_match.proofs.phrase.holds_at.Given as goal

pub record Running (l : goal.Live-loop-step) : Type 0 where
  pub run : run (leaf_value l.phrase.vector.now l.phrase.operands.now l.from) (drop l.step-index l.step-items)
      (reverse l.stack.items) ≡ run (leaf_value l.phrase.vector.now l.phrase.operands.now l.from) l.phrase.steps.now []
  pub same : l.step-items ≡ l.phrase.steps.now
  pub len : vec_len l.stack ≤ l.step-index
  pub capacity : vec_capacity l.stack ≡ vec_capacity l.fn.stack

abbrev pub invariant-loop-step : goal.invariant-loop-step
invariant-loop-step l = Running l

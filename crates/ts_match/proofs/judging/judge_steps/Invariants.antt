use Rattle.std.proofs.Common.{◌≡◌, ◌≤◌, [], drop, reverse, vec_len, vec_capacity}
use Rattle.ts_match.proofs.Weighed.{weigh_all}
use Rattle.ts_match.proofs.judging.judge_steps.Given as goal

pub record Weighing (l : goal.Live-loop-step) : Type 0 where
  pub run : weigh_all l.operands l.values (drop l.step-index l.steps) (reverse l.stack.items)
      ≡ weigh_all l.operands l.values l.steps []
  pub len : vec_len l.stack ≤ l.step-index
  pub capacity : vec_capacity l.stack ≡ vec_capacity l.fn.stack

abbrev pub invariant-loop-step : goal.invariant-loop-step
invariant-loop-step l = Weighing l

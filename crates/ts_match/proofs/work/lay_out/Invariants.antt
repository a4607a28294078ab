use Rattle.std.proofs.Common.{◌≡◌, ◌+◌, ◌-◌, ◌*◌, ◌≤◌, ◌++◌, length, take, reverse, vec_len, vec_capacity}
use Rattle.ts_match.specs.Plan.{plan_of}
use Rattle.ts_match.proofs.Plans.{lay_all, root_due, WithinReach, STRIDE}
use Rattle.ts_match.proofs.work.lay_out.Given as goal

pub record Laying (l : goal.Live-loop-i) : Type 0 where
  pub run : l.steps.items ++ lay_all (root_due (length l.nodes)) (reverse (take l.i l.nodes))
      (reverse (take l.i l.widths)) (reverse l.due.items) ≡ reverse (plan_of l.query)
  pub near : WithinReach ((length l.nodes - l.i) * STRIDE) (reverse l.due.items)
  pub due_len : vec_len l.due + l.i ≤ length l.nodes + 1
  pub due_room : vec_capacity l.due ≡ length l.nodes + 2
  pub steps_len : vec_len l.steps + l.i ≡ length l.nodes
  pub steps_room : vec_capacity l.steps ≡ length l.nodes

abbrev pub invariant-loop-i : goal.invariant-loop-i
invariant-loop-i l = Laying l

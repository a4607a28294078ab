use Rattle.std.proofs.Common.{◌≡◌, ◌*◌, ◌≤◌, ◌++◌, length, drop, reverse, vec_len, vec_capacity}
use Rattle.ts_match.specs.Inner.Stacks.{total}
use Rattle.ts_match.specs.Inner.Plan.{left_widths_of}
use Rattle.ts_match.proofs.Plans.{measure_all}
use Rattle.ts_match.proofs.work.left_widths.Given as goal

pub record Measuring (l : goal.Live-loop-node) : Type 0 where
  pub run : l.widths.items ++ measure_all (drop l.node-index l.nodes) (reverse l.stack.items) ≡ left_widths_of l.query
  pub low : total (reverse l.stack.items) ≤ 16384 * l.node-index
  pub stack_len : vec_len l.stack ≤ l.node-index
  pub stack_room : vec_capacity l.stack ≡ length l.nodes
  pub widths_len : vec_len l.widths ≡ l.node-index
  pub widths_room : vec_capacity l.widths ≡ length l.nodes

abbrev pub invariant-loop-node : goal.invariant-loop-node
invariant-loop-node l = Measuring l

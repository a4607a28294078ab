use Rattle.std.proofs.Common.{◌≡◌}
use Rattle.latch_table.specs.Passes.{state}
use Rattle.latch_bench.specs.Hands.{IsFree}
use Rattle.latch_bench.proofs.rows.run_orders.Given as goal

abbrev pub invariant-loop-order : goal.invariant-loop-order
invariant-loop-order g l = (IsFree l.desk.table.shared.table_id l.hand)
    × ((state l.hand).room ≡ (state l.initial.hand).room)
    × (goal.iterator-loop-order g).can_next l.order-iterator
    × (goal.iterator-loop-order g).is_finite l.order-iterator

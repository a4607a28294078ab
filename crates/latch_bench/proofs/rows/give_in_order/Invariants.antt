use Rattle.std.proofs.Common.{◌≡◌}
use Rattle.latch_table.specs.Passes.{state}
use Rattle.latch_bench.specs.Hands.{IsHolding}
use Rattle.latch_bench.specs.Lent.{AreLent}
use Rattle.latch_bench.proofs.rows.give_in_order.Given as goal

abbrev pub invariant-loop-digit : goal.invariant-loop-digit
invariant-loop-digit l = (IsHolding l.desk.table.shared.table_id l.hand)
    × AreLent (state l.hand).frames l.base l.row
    × ((state l.hand).room ≡ (state l.initial.hand).room)
    × (goal.iterator-loop-digit).can_next l.digit-iterator
    × (goal.iterator-loop-digit).is_finite l.digit-iterator

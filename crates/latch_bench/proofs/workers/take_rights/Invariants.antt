use Rattle.std.proofs.Common.{◌≡◌}
use Rattle.latch_table.specs.Passes.{state}
use Rattle.latch_bench.specs.Hands.{IsFree}
use Rattle.latch_bench.proofs.workers.take_rights.Given as goal

abbrev pub invariant-loop : goal.invariant-loop
invariant-loop g l = (IsFree l.desk.table.shared.table_id l.hand)
    × ((state l.hand).room ≡ (state l.initial.hand).room)

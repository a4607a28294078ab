use Rattle.std.proofs.Common.{◌≡◌, ◌+◌, All, length}
use Rattle.latch_table.specs.Passes.{state}
use Rattle.latch_bench.specs.Hands.{IsFree, IsReady}
use Rattle.latch_bench.proofs.workers.hire.Given as goal

abbrev pub invariant-loop : goal.invariant-loop
invariant-loop l = (IsFree l.desk.table.shared.table_id l.hand)
    × All (IsReady l.desk.table.shared.table_id) l.workers.items
    × ((state l.hand).room + length l.workers.items ≡ 16)
    × (length l.workers.items ≡ l.counter)

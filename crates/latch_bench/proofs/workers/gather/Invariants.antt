use Rattle.std.proofs.Common.{◌≡◌, ◌+◌, All, length}
use Rattle.latch_table.specs.Passes.{state}
use Rattle.latch_bench.specs.Hands.{IsFree, IsReady}
use Rattle.latch_bench.proofs.workers.gather.Given as goal

abbrev pub invariant-loop-worker : goal.invariant-loop-worker
invariant-loop-worker l = (IsFree l.desk.table.shared.table_id l.hand)
    × All (IsReady l.desk.table.shared.table_id) l.workers.items
    × ((state l.hand).room + length l.workers.items ≡ 16)

abbrev pub decreases-loop-worker : goal.decreases-loop-worker
decreases-loop-worker l = length l.workers.items

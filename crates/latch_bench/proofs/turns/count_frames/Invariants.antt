use Rattle.std.proofs.Common.{◌≡◌}
use Rattle.latch_table.specs.Passes.{state}
use Rattle.latch_bench.specs.Hands.{IsFree}
use Rattle.latch_bench.proofs.turns.count_frames.Given as goal

abbrev pub invariant-loop-frame : goal.invariant-loop-frame
invariant-loop-frame g l = (IsFree l.desk.table.shared.table_id l.hand)
    × ((state l.hand).room ≡ (state l.initial.hand).room)

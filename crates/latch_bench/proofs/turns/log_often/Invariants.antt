use Rattle.std.proofs.Common.{◌≡◌}
use Rattle.std.specs.Prelude.{None}
use Rattle.latch_table.specs.Passes.{state, IsPassOf}
use Rattle.latch_bench.proofs.turns.log_often.Given as goal

abbrev pub invariant-loop : goal.invariant-loop
invariant-loop g l = (IsPassOf l.desk.table.shared.table_id l.hand) × ((state l.hand).journal ≡ None)

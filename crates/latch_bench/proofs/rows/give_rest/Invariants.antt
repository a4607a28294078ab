use Rattle.std.proofs.Common.{◌≡◌, ℕ, ◌<◌}
use Rattle.std.specs.Prelude.{None}
use mathlib.Core.Option.{some}
use lib.ListN.{get_elem?}
use Rattle.latch_table.specs.Passes.{state}
use Rattle.latch_bench.specs.Hands.{IsHolding}
use Rattle.latch_bench.specs.Lent.{AreLent}
use Rattle.latch_bench.proofs.rows.give_rest.Given as goal

abbrev pub invariant-loop-place : goal.invariant-loop-place
invariant-loop-place l = (IsHolding l.desk.table.shared.table_id l.hand)
    × AreLent (state l.hand).frames l.base l.row
    × ((state l.hand).room ≡ (state l.initial.hand).room)
    × ((k : ℕ) → k < l.place → get_elem? l.row k ≡ some None)

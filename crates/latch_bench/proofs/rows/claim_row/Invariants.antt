use Rattle.std.proofs.Common.{◌≡◌, ℕ, ◌+◌, ◌<◌, ◌≤◌, length}
use Rattle.std.specs.Prelude.{None}
use mathlib.Core.Option.{some}
use lib.ListN.{get_elem?}
use Rattle.core_state.specs.Log.{In}
use Rattle.latch_table.specs.declared.states.Note.{Note}
use Rattle.latch_table.specs.Passes.{state}
use Rattle.latch_bench.specs.Hands.{IsHolding}
use Rattle.latch_bench.specs.Lent.{AreLent}
use Rattle.latch_bench.proofs.rows.claim_row.Given as goal

abbrev pub invariant-loop-place : goal.invariant-loop-place
invariant-loop-place g l = (IsHolding l.desk.table.shared.table_id l.hand)
    × AreLent (state l.hand).frames l.base l.row
    × ((state l.hand).room ≡ (state l.initial.hand).room)
    × (length (state l.hand).frames ≡ l.place)
    × ((f : Note) → In f (state l.hand).frames → f.frame < l.base + l.place)
    × ((k : ℕ) → l.place ≤ k → k < 4 → get_elem? l.row k ≡ some None)

use Rattle.std.proofs.Common.{◌≡◌, ◌⊎◌, ℕ, take}
use Rattle.std.specs.Prelude.{◌↔◌}
use Rattle.ts_base.specs.Keys.{Key}
use Rattle.page_types.specs.Parts.{row_shown}
use Rattle.core_state.specs.Log.{In}
use Rattle.gin_cleanup.specs.Gathered.{Has}
use Rattle.gin_cleanup.proofs.gathered.Gathered.put_row.Given as goal

abbrev pub invariant-loop-j : goal.invariant-loop-j
invariant-loop-j l = (k : Key) (i : ℕ) → Has l.self k i
    ↔ (Has l.initial.self k i ⊎ (((row_shown l.row).item ≡ i) × In k (take l.j (row_shown l.row).keys)))

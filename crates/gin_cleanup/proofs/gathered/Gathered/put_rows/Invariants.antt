use Rattle.std.proofs.Common.{◌⊎◌, ℕ, take}
use Rattle.std.specs.Prelude.{◌↔◌}
use Rattle.ts_base.specs.Keys.{Key}
use Rattle.core_state.specs.Index.{InRows}
use Rattle.gin_cleanup.specs.Gathered.{Has}
use Rattle.gin_cleanup.proofs.gathered.Gathered.put_rows.Given as goal

abbrev pub invariant-loop-k : goal.invariant-loop-k
invariant-loop-k l = (q : Key) (i : ℕ) → Has l.self q i ↔ (Has l.initial.self q i ⊎ InRows (take l.k l.rows) q i)

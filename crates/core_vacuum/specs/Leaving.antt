-- Which items are out of the index, and their documents dead.
use Rattle.std.specs.Prelude.{ℕ}
use Rattle.ts_base.specs.Keys.{Key}
use Rattle.core_state.specs.Log.{Log, Pages}
use Rattle.core_state.specs.Index.{Main}
use Rattle.core_state.specs.VacuumRules.{MayLeave}

-- no entry and no posting tree has the item
abbrev pub IsSwept : Pages → ℕ → Type 0
IsSwept P i = (k : Key) → Main P k i → ⊥

-- the item's document has its slot and is dead, and no row and no posting has the item
pub record IsOut (R : Log) (P : Pages) (floor i : ℕ) : Type 0 where
  pub may : MayLeave R P floor i
  pub swept : IsSwept P i

-- The xids of a log: the first is 1, and those that weren't drawn have not begun.
use Rattle.std.specs.Prelude.{◌≡◌, ℕ, ◌≤◌}
use Rattle.core_state.specs.Log.{Log, fate, next_xid}
use Rattle.core_state.specs.declared.answers.Fate.TheVariants.{Unused}

-- 0 is no xid, and from the next one on none has begun
pub record XidsDrawn (R : Log) : Type 0 where
  pub first : 1 ≤ next_xid R
  pub fresh : (x : ℕ) → next_xid R ≤ x → fate R x ≡ Unused
  pub none : fate R 0 ≡ Unused

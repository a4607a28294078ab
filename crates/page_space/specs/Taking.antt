-- Which page is taken where a new one is wanted, and what it is in the log.
use Rattle.std.specs.Prelude.{ℕ}
use Rattle.core_state.specs.Log.{Log, Pages, Shows}
use Rattle.core_state.specs.States.{StateValue, StateTells, use_of}
use Rattle.core_state.specs.PageChoice.{IsLeast, IsUnused, IsReusable}
use Rattle.core_state.specs.Steps.{IsNewSheet}

-- the lowest page that was deleted by a record of number `since` at most, or, where there is none, the
-- lowest that no record has changed
pub data IsTaken (s : StateValue) (since p : ℕ) : Type 0 where
  deleted : IsLeast (IsReusable (use_of s) since) p → IsTaken s since p
  unused : ((q : ℕ) → IsReusable (use_of s) since q → ⊥) → IsLeast (IsUnused s) p → IsTaken s since p

-- there is no such page
pub record HasNoPage (s : StateValue) (since : ℕ) : Type 0 where
  pub no_deleted : (p : ℕ) → IsReusable (use_of s) since p → ⊥
  pub no_unused : (p : ℕ) → IsUnused s p → ⊥

-- the page that is taken of the state of a log is a new one among the pages of the log
abbrev pub TakenIsNew : Type 0
TakenIsNew =
    (R : Log) (P : Pages) (s : StateValue) (since p : ℕ) → StateTells R s → Shows R P
    → IsTaken s since p → IsNewSheet P since p (P p)

-- Which calls of an object in memory fail, and what each counts.
use Rattle.std.specs.Prelude.{◌≡◌, ◌⊎◌, ℕ, ◌+◌, ◌≤◌, min, List, Contains, Result, OnOk, OnErr}
use Rattle.disk_trait.specs.Device.{last_count}
use Rattle.disk_trait.specs.declared.schedule.Schedule.{Schedule}

-- The next call fails: it is listed, or it finds a count at its last number.
abbrev pub MustFail : Schedule → Type 0
MustFail s = Contains s.fails.items (s.calls + 1) ⊎ (s.calls ≡ last_count) ⊎ (s.faults ≡ last_count)

-- no call so far
pub record IsUnused (s : Schedule) (fails : List ℕ) : Type 0 where
  pub list : s.fails.items ≡ fails
  pub calls : s.calls ≡ 0
  pub faults : s.faults ≡ 0

-- the number of calls is one more, or stays at its last number
pub record GoesOn (old new : ℕ) : Type 0 where
  pub next : new ≡ min (old + 1) last_count
  pub later : old ≤ new

-- a fault is counted where the call failed, and the count stays at its last number
pub record HasRisen {T E : Type 0} (before now : ℕ) (result : Result T E) : Type 0 where
  pub at_ok : OnOk result (now ≡ before)
  pub at_err : OnErr result (now ≡ min (before + 1) last_count)

-- a whole call
pub record HasCounted {T E : Type 0} (old new : Schedule) (result : Result T E) : Type 0 where
  pub calls : GoesOn old.calls new.calls
  pub list : new.fails ≡ old.fails
  pub faults : HasRisen old.faults new.faults result

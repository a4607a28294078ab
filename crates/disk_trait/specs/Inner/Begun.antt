-- A call of an object in memory as it begins.
use Rattle.std.specs.Prelude.{◌≡◌, ◌<◌, Bool, true, false}
use Rattle.disk_trait.specs.Device.{last_count}
use Rattle.disk_trait.specs.Schedules.{MustFail, GoesOn}
use Rattle.disk_trait.specs.declared.schedule.Schedule.{Schedule}

-- the call was counted, and nothing else
pub record HasBegun (old new : Schedule) (goes : Bool) : Type 0 where
  pub calls : GoesOn old.calls new.calls
  pub same : (new.fails ≡ old.fails) × (new.faults ≡ old.faults)
  pub goes_on : goes ≡ true → MustFail old → ⊥
  pub fails : goes ≡ false → MustFail old
  pub room : goes ≡ true → old.faults < last_count

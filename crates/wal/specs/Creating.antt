-- A log that is being created.
use Rattle.std.specs.Prelude.{◌≡◌, ◌⊎◌, ℕ, ◌≤◌, List, [], ◌∷◌, ◌++◌, Result, OnOk, OnErr}
use Rattle.disk_trait.specs.Files.{Files}
use Rattle.disk_trait.specs.Device.{Rose}
use Rattle.disk_trait.specs.declared.device.Disk.{Ghosts as Disk}
use Rattle.disk_trait.specs.Runs.{images_now}
use Rattle.wal.specs.Batches.{header, IsUnborn, Opens}
use Rattle.wal.specs.Settled.{LogIs}

-- a log without a batch
abbrev pub created : List ℕ
created = header ++ 0 ∷ []

-- an image whose log has P, with the pages of an earlier one
pub record From (old : Files → Type 0) (P : List ℕ → Type 0) (c : Files) : Type 0 where
  pub before : Files
  pub was : old before
  pub pages : c.pages ≡ before.pages
  pub log : P c.log

-- The counts of a creation. Where it failed, a write or a sync did, or the device did not say the
-- log's length.
pub record CreateHasCause {D T E : Type 0} (device : Disk D) (old new : D) (result : Result T E) : Type 0 where
  pub time : device.clock old ≤ device.clock new
  pub later : (device.fault_count old ≤ device.fault_count new)
      × (device.write_fault_count old ≤ device.write_fault_count new)
  pub failed : OnErr result (Rose (device.fault_count old) (device.fault_count new))
  pub at_ok : OnOk result (device.write_fault_count new ≡ device.write_fault_count old)
  pub at_err : OnErr result ((device.write_fault_count new ≡ device.write_fault_count old)
      ⊎ Rose (device.write_fault_count old) (device.write_fault_count new))

-- a log as it was, or, where its creation was not begun or was cut short, one without batches
abbrev pub IsLogBefore : List ℕ → List ℕ → Type 0
IsLogBefore old new = (new ≡ old) ⊎ (IsUnborn old × Opens new [])

module _ {D : Type 0} (device : Disk D) where
  -- an image of an opening: the pages of an earlier one, and its log or an empty one
  abbrev pub IsImageBefore : D → Files → Type 0
  IsImageBefore old c = From (images_now device old) (IsLogBefore (device.seen old).log) c

  -- the log is there, on the device as it is read, and the pages are as they were
  pub record IsMade (old new : D) : Type 0 where
    pub pages : (device.seen new).pages ≡ (device.seen old).pages
    pub log_is : ((device.seen new).log ≡ (device.seen old).log)
        ⊎ (IsUnborn (device.seen old).log × ((device.seen new).log ≡ created))
    pub born : IsUnborn (device.seen new).log → ⊥
    pub durable : LogIs device (device.seen new).log new

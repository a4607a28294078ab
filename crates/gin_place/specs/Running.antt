-- How the device, what a crash leaves, and the state of the log go on in calls that log records.
use Rattle.std.specs.Prelude.{◌≡◌, ℕ, ◌<◌, ◌≤◌, List, [], ◌∷◌}
use Rattle.disk_trait.specs.declared.device.Disk.{Ghosts as Disk}
use Rattle.core_state.specs.Log.{Log}
use Rattle.core_state.specs.History.{History, Begins}
use Rattle.core_state.specs.States.{StateValue}
use Rattle.buffer_frames.specs.Beginnings.{BeginsBy}
use Rattle.buffer_frames.specs.Frames.{FramesValue, Stands, RunsOn}
use Rattle.buffer_frames.specs.Passes.{GoesOnBy}

-- the clock of the device and its counts don't fall
pub record DiskRises {D : Type 0} (device : Disk D) (old new : D) : Type 0 where
  pub time : device.clock old ≤ device.clock new
  pub faults : device.fault_count old ≤ device.fault_count new
  pub writes : device.write_fault_count old ≤ device.write_fault_count new

-- the commits are as they were, and so are the pages that a head is tried on
pub record KeepsHeaps (old new : StateValue) : Type 0 where
  pub pages : new.pages ≡ old.pages
  pub deleted : new.deleted ≡ old.deleted
  pub heaps : new.heaps ≡ old.heaps
  pub current : new.current ≡ old.current
  pub freed : new.freed ≡ old.freed

-- Where the journal stands for a log and its history, it stands for the log with records of these kinds, and for a
-- history that goes on from that one; what a crash leaves goes on to open to a beginning of it.
abbrev pub BeginsThen : {D : Type 0} → Disk D → FramesValue D → FramesValue D → List ℕ → Type 0
BeginsThen device old new kinds =
    device.tells → (found : History) (R : Log) (H : History) → BeginsBy device old.journal found R H
    → (R' : Log) × (H' : History) × GoesOnBy old.journal.owes R R' kinds × Begins H H'
    × BeginsBy device new.journal found R' H' × (Stands device old R → Stands device new R')

-- there are as many records as before where none is logged, and more where some are
abbrev pub RecordsRise : List ℕ → ℕ → ℕ → Type 0
RecordsRise [] old new = new ≡ old
RecordsRise (k ∷ kinds) old new = old < new

-- How calls go on that log records of these kinds.
pub record StoreGoesOn {D : Type 0} (device : Disk D) (old new : FramesValue D) (kinds : List ℕ) : Type 0 where
  pub rises : DiskRises device old.journal.disk new.journal.disk
  pub state : KeepsHeaps old.journal.state new.journal.state
  pub records : RecordsRise kinds old.journal.state.records new.journal.state.records
  pub runs : RunsOn device old new
  pub begins : BeginsThen device old new kinds

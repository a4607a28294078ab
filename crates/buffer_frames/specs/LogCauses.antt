-- What the calls of a journal answer, and what the device has counted then.
use Rattle.std.specs.Prelude.{◌≡◌, ◌⊎◌, ℕ, ◌<◌, ◌≤◌, ⊤, Option, Some, None, Result, Ok, Err, IsErrOf}
use Rattle.disk_trait.specs.Device.{Rose}
use Rattle.disk_trait.specs.declared.device.Disk.{Ghosts as Disk}
use Rattle.wal.specs.Waiting.{down_of}
use Rattle.buffer_frames.specs.Journals.{JournalValue}
use Rattle.buffer_frames.specs.declared.frame_error.FrameError.{FrameError}
use Rattle.buffer_frames.specs.declared.frame_error.FrameError.TheVariants as frames
use Rattle.buffer_frames.specs.declared.log_error.LogError.{LogError}
use Rattle.buffer_frames.specs.declared.log_error.LogError.TheVariants.{DiskFault, LogFull}

-- the count rose exactly where DiskFault is answered
abbrev pub RoseAtFault : {T : Type 0} → Result T LogError → ℕ → ℕ → Type 0
RoseAtFault (Err DiskFault) before now = Rose before now
RoseAtFault r before now = now ≡ before

-- The clock and the counts of a call that writes. They never fall.
pub record WriteHasCause {D T : Type 0} (device : Disk D) (old new : D)
    (result : Result T LogError) : Type 0 where
  pub time : device.clock old ≤ device.clock new
  pub later : (device.fault_count old ≤ device.fault_count new)
      × (device.write_fault_count old ≤ device.write_fault_count new)
  pub fault : IsErrOf result DiskFault → Rose (device.fault_count old) (device.fault_count new)
  pub write_fault : RoseAtFault result (device.write_fault_count old) (device.write_fault_count new)

-- the journal goes down exactly where DiskFault is answered, with the device's count as it is then
abbrev pub GoesDown : {T : Type 0} → Result T LogError → ℕ → Option ℕ → Option ℕ → Type 0
GoesDown (Err DiskFault) faults old new = new ≡ Some faults
GoesDown r faults old new = new ≡ old

-- LogFull exactly where the log would pass its limit, if it isn't down, no fault is met and memory
-- does not run out
abbrev pub LogFullWhere : {T : Type 0} → ℕ → ℕ → Result T LogError → Type 0
LogFullWhere limit len (Ok x) = len ≤ limit
LogFullWhere limit len (Err LogFull) = limit < len
LogFullWhere limit len (Err e) = ⊤

-- No write failed, and the journal is up or down as it was. The clock and the count of faults never
-- fall.
pub record IsCalm {D : Type 0} (device : Disk D) (old new : JournalValue D) : Type 0 where
  pub down : down_of new.wal ≡ down_of old.wal
  pub time : device.clock old.disk ≤ device.clock new.disk
  pub later : device.fault_count old.disk ≤ device.fault_count new.disk
  pub no_write : device.write_fault_count new.disk ≡ device.write_fault_count old.disk

-- A write failed, and the journal is down, with the device's count as it is then.
pub record HasFailed {D : Type 0} (device : Disk D) (old new : JournalValue D) : Type 0 where
  pub up : down_of old.wal ≡ None
  pub down : down_of new.wal ≡ Some (device.fault_count new.disk)
  pub time : device.clock old.disk ≤ device.clock new.disk
  pub later : (device.fault_count old.disk ≤ device.fault_count new.disk)
      × (device.write_fault_count old.disk ≤ device.write_fault_count new.disk)
  pub write_fault : Rose (device.write_fault_count old.disk) (device.write_fault_count new.disk)

-- What a hold leaves: the count of faults rose where DiskFault is answered, and a write failed there,
-- and there alone.
pub record HoldHasCause {D T : Type 0} (device : Disk D) (old new : JournalValue D)
    (result : Result T FrameError) : Type 0 where
  pub fault : IsErrOf result frames.DiskFault
      → Rose (device.fault_count old.disk) (device.fault_count new.disk)
  pub either : (IsCalm device old new × (IsErrOf result frames.DiskFault → ⊥))
      ⊎ (IsErrOf result frames.DiskFault × HasFailed device old new)

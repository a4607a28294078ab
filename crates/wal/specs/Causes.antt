-- What the calls of a log answer, and what the device has counted then, at which moment.
use Rattle.std.specs.Prelude.{◌≡◌, ℕ, ◌<◌, ◌≤◌, ⊤, Option, Some, OnOk, Result, Ok, Err, IsErrOf}
use Rattle.disk_trait.specs.Device.{Rose}
use Rattle.disk_trait.specs.declared.device.Disk.{Ghosts as Disk}
use Rattle.wal.specs.declared.error.ReadError.{ReadError}
use Rattle.wal.specs.declared.error.ReadError.TheVariants as reading
use Rattle.wal.specs.declared.error.AppendError.{AppendError}
use Rattle.wal.specs.declared.error.AppendError.TheVariants as appending
use Rattle.wal.specs.declared.error.FlushError.{FlushError}
use Rattle.wal.specs.declared.error.FlushError.TheVariants as flushing

-- the count rose exactly where DiskFault is answered
abbrev pub RoseAtFault : {T : Type 0} → Result T FlushError → ℕ → ℕ → Type 0
RoseAtFault (Err flushing.DiskFault) before now = Rose before now
RoseAtFault r before now = now ≡ before

module _ {D : Type 0} (device : Disk D) where
  -- The counts of a call that writes. They never fall, nor does the clock.
  pub record WriteHasCause {T : Type 0} (old new : D) (result : Result T FlushError) : Type 0 where
    pub time : device.clock old ≤ device.clock new
    pub later : (device.fault_count old ≤ device.fault_count new)
        × (device.write_fault_count old ≤ device.write_fault_count new)
    pub fault : IsErrOf result flushing.DiskFault
        → Rose (device.fault_count old) (device.fault_count new)
    pub write_fault : RoseAtFault result (device.write_fault_count old) (device.write_fault_count new)

  -- The counts of a call that reads: no write failed.
  pub record ReadHasCause {T : Type 0} (old new : D) (result : Result T ReadError) : Type 0 where
    pub time : device.clock old ≤ device.clock new
    pub later : device.fault_count old ≤ device.fault_count new
    pub fault : IsErrOf result reading.DiskFault
        → Rose (device.fault_count old) (device.fault_count new)
    pub no_write : device.write_fault_count new ≡ device.write_fault_count old

  -- The counts of a call that reads, and may create.
  pub record OpenHasCause {T : Type 0} (old new : D) (result : Result T ReadError) : Type 0 where
    pub time : device.clock old ≤ device.clock new
    pub later : device.fault_count old ≤ device.fault_count new
    pub fault : IsErrOf result reading.DiskFault
        → Rose (device.fault_count old) (device.fault_count new)
    pub at_ok : OnOk result (device.write_fault_count new ≡ device.write_fault_count old)
    pub at_memory : IsErrOf result reading.OutOfMemory
        → device.write_fault_count new ≡ device.write_fault_count old

-- the log goes down exactly where DiskFault is answered, with the device's count as it is then
abbrev pub GoesDown : {T : Type 0} → Result T FlushError → ℕ → Option ℕ → Option ℕ → Type 0
GoesDown (Err flushing.DiskFault) faults old new = new ≡ Some faults
GoesDown r faults old new = new ≡ old

-- NotAStore exactly where P holds, if no fault is met and memory does not run out
abbrev pub NotAStoreWhere : {T : Type 0} → Type 0 → Result T ReadError → Type 0
NotAStoreWhere P (Ok x) = P → ⊥
NotAStoreWhere P (Err reading.NotAStore) = P
NotAStoreWhere P (Err reading.DiskFault) = ⊤
NotAStoreWhere P (Err reading.OutOfMemory) = ⊤

-- LogFull exactly where the log would pass its limit, if it isn't down
abbrev pub LogFullWhere : {T : Type 0} → ℕ → ℕ → Result T AppendError → Type 0
LogFullWhere limit len (Ok x) = len ≤ limit
LogFullWhere limit len (Err appending.LogFull) = limit < len
LogFullWhere limit len (Err appending.OutOfMemory) = len ≤ limit
LogFullWhere limit len (Err (appending.Down f)) = ⊤

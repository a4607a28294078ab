-- What a call of an opening answers, and what the device has counted then.
use Rattle.std.specs.Prelude.{◌≡◌, ◌≤◌, Result, Ok, Err, IsErrOf, ⊤}
use Rattle.disk_trait.specs.Device.{Rose}
use Rattle.disk_trait.specs.declared.device.Disk.{Ghosts as Disk}
use Rattle.buffer_frames.specs.declared.error.OpenFault.{OpenFault}
use Rattle.buffer_frames.specs.declared.error.OpenFault.TheVariants.{NotAStore, DiskFault, OutOfMemory}

-- The clock and the counts of a call that reads: no write failed.
pub record ReadHasCause {D T : Type 0} (device : Disk D) (old new : D)
    (result : Result T OpenFault) : Type 0 where
  pub time : device.clock old ≤ device.clock new
  pub later : device.fault_count old ≤ device.fault_count new
  pub fault : IsErrOf result DiskFault → Rose (device.fault_count old) (device.fault_count new)
  pub no_write : device.write_fault_count new ≡ device.write_fault_count old

-- NotAStore exactly where P holds, if no fault is met and memory does not run out.
abbrev pub NotAStoreWhere : {T : Type 0} → Type 0 → Result T OpenFault → Type 0
NotAStoreWhere P (Ok x) = P → ⊥
NotAStoreWhere P (Err NotAStore) = P
NotAStoreWhere P (Err DiskFault) = ⊤
NotAStoreWhere P (Err OutOfMemory) = ⊤

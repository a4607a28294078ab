-- The faults that calls meet: a write or a sync that failed.
use Rattle.std.specs.Prelude.{◌≡◌, ◌≤◌, Some, None}
use Rattle.disk_trait.specs.Device.{Rose}
use Rattle.disk_trait.specs.declared.device.Disk.{Ghosts as Disk}
use Rattle.wal.specs.Waiting.{down_of}
use Rattle.buffer_frames.specs.Frames.{FramesValue}
use Rattle.gin_place.specs.declared.error.PlaceError.{PlaceError}
use Rattle.gin_place.specs.declared.error.PlaceError.TheVariants.{DiskFault, Down}

module _ {D : Type 0} (device : Disk D) (f g : FramesValue D) where
  -- the counts of the device rose, and the journal, which was up, is down with the count as it is then
  pub record MetFault : Type 0 where
    pub up : down_of f.journal.wal ≡ None
    pub rose : Rose (device.fault_count f.journal.disk) (device.fault_count g.journal.disk)
    pub writes : Rose (device.write_fault_count f.journal.disk) (device.write_fault_count g.journal.disk)
    pub down : down_of g.journal.wal ≡ Some (device.fault_count g.journal.disk)

  -- no write and no sync failed, and the journal is up or down as it was; the count of faults never falls
  pub record MetNoFault : Type 0 where
    pub later : device.fault_count f.journal.disk ≤ device.fault_count g.journal.disk
    pub writes : device.write_fault_count g.journal.disk ≡ device.write_fault_count f.journal.disk
    pub down : down_of g.journal.wal ≡ down_of f.journal.wal

  -- a fault is met exactly where DiskFault is answered; a journal of which Down is answered is down
  abbrev pub FaultBy : PlaceError → Type 0
  FaultBy DiskFault = MetFault
  FaultBy (Down n) = MetNoFault × (down_of g.journal.wal ≡ Some n)
  FaultBy e = MetNoFault

-- The steps of an opening.
use Rattle.std.specs.Prelude.{◌≡◌, ◌⊎◌, ℕ, Bool, true, false, ◌<◌, ◌≤◌, List, Result, OnOk, IsErrOf}
use Rattle.disk_trait.specs.Files.{Files}
use Rattle.disk_trait.specs.Device.{Rose, last_count}
use Rattle.disk_trait.specs.Runs.{images_now, LeavesOnly}
use Rattle.disk_trait.specs.declared.device.Disk.{Ghosts as Disk}
use Rattle.wal.specs.Creating.{IsLogBefore}
use Rattle.wal.specs.Reading.{IsFresh, IsOnlyRead}
use Rattle.wal.specs.Settled.{Settled}
use Rattle.wal.specs.Waiting.{waiting, end_of, limit_of, down_of, IsReadToEnd}
use Rattle.wal.specs.declared.log.Wal.{Wal}
use Rattle.page_types.specs.Records.{record_bytes}
use Rattle.core_state.specs.Log.{Log}
use Rattle.core_state.specs.States.{StateValue, state_of, step_of}
use Rattle.core_state.specs.declared.settings.Settings.{Settings}
use Rattle.buffer_frames.specs.Counted.{AreNumbered, AreRecords}
use Rattle.buffer_frames.specs.First.{first_record}
use Rattle.buffer_frames.specs.NoStore.{IsStoreOf}
use Rattle.buffer_frames.specs.Maps.{HasApplied}
use Rattle.buffer_frames.specs.declared.page_map.PageMap.{PageMap}
use Rattle.buffer_frames.specs.declared.error.OpenFault.{OpenFault}
use Rattle.buffer_frames.specs.declared.error.OpenFault.TheVariants.{DiskFault, OutOfMemory}

-- What an opening does to a log and to the state of its records: where there are some an Abort is
-- owed, and else the first one waits.
abbrev pub HasBegun : Bool → Wal → Wal → StateValue → StateValue → Type 0
HasBegun true wal wal' s s' = (0 < s.records) × (wal' ≡ wal) × (s' ≡ s)
HasBegun false wal wal' s s' =
    (s.records ≡ 0) × (waiting wal' ≡ record_bytes first_record) × (end_of wal' ≡ end_of wal)
    × (limit_of wal' ≡ limit_of wal) × (down_of wal' ≡ down_of wal) × (s' ≡ step_of first_record s)

-- The clock and the counts of a run of calls that may write.
pub record MakesHasCause {D T : Type 0} (device : Disk D) (old new : D)
    (result : Result T OpenFault) : Type 0 where
  pub time : device.clock old ≤ device.clock new
  pub later : device.fault_count old ≤ device.fault_count new
  pub fault : IsErrOf result DiskFault → Rose (device.fault_count old) (device.fault_count new)
  pub at_ok : OnOk result (device.write_fault_count new ≡ device.write_fault_count old)
  pub at_memory : IsErrOf result OutOfMemory
      → device.write_fault_count new ≡ device.write_fault_count old

module _ {D : Type 0} (device : Disk D) where
  -- Both files were synced up to `mid`, at c0. From then on a crash leaves the pages as they are
  -- read, and the log or an empty one.
  pub record HasRun (first : D) (c0 : ℕ) (disk : D) : Type 0 where
    pub mid : D
    pub at : device.clock mid ≡ c0
    pub synced : LeavesOnly device first mid (images_now device first)
    pub rest : LeavesOnly device mid disk (λ (c : Files). (c.pages ≡ (device.seen first).pages)
        × IsLogBefore (device.seen first).log c.log)

  -- nothing was written, or both files were synced before
  abbrev pub RunsFrom : D → D → Type 0
  RunsFrom first disk = IsOnlyRead device first disk ⊎ ((c0 : ℕ) × HasRun first c0 disk)

  -- the records of the files, read into a state and a map of pages
  pub record IsReadAs (settings : Settings) (old new : D) (wal : Wal) (state : StateValue)
      (map : PageMap) (R : Log) : Type 0 where
    pub numbered : AreNumbered R
    pub state_is : state ≡ state_of settings.pages settings.xid_limit R
    pub to_end : IsReadToEnd wal
    pub fresh : IsFresh wal settings.log_limit
    pub store : device.tells → IsStoreOf (device.seen old) R
    pub applied : device.tells → HasApplied (device.seen old).pages R map
    pub settled : device.tells → (batches : List (List ℕ)) × Settled device batches (end_of wal) new
        × AreRecords batches R

  pub record AreBelowLast (old new : D) : Type 0 where
    pub faults : device.fault_count old < last_count
    pub write_faults : device.write_fault_count new < last_count

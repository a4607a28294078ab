-- How a store goes on in a call: the steps of the work, and the records that they log.
use Rattle.std.specs.Prelude.{◌≡◌, ◌⊎◌, ℕ, ◌≤◌, List, [], ◌∷◌, ◌++◌, Some, Result, Err}
use Rattle.disk_trait.specs.Device.{Rose}
use Rattle.disk_trait.specs.declared.device.Disk.{Ghosts as Disk}
use Rattle.wal.specs.Waiting.{limit_of, length_with}
use Rattle.page_types.specs.Records.{kind_number}
use Rattle.page_types.specs.declared.record.Record.{Record}
use Rattle.core_state.specs.Log.{Log}
use Rattle.core_state.specs.Legal.{IsLegal}
use Rattle.core_state.specs.States.{step_of}
use Rattle.snap_pins.specs.Taken.{IsPinned}
use Rattle.snap_pins.specs.declared.Pin.{Pin}
use Rattle.buffer_frames.specs.Frames.{Stands, Behind, RunsOn, KeepsState}
use Rattle.buffer_frames.specs.Beginnings.{BeginsOn, BeginsWith}
use Rattle.buffer_frames.specs.Journals.{logged, logged_bytes}
use Rattle.buffer_frames.specs.Passes.{HasAdded}
use Rattle.engine.specs.Db.{DbValue, disk_of, fault_of, flushed_of, state_of, state_then, IsUp}
use Rattle.engine.specs.declared.error.DbError.{DbError}
use Rattle.engine.specs.declared.error.DbError.TheVariants.{DiskFault}

-- A snapshot that is in use was so before, or has all commits that were flushed, and is of a log that is no
-- shorter than it was.
abbrev pub PinsRise : {D : Type 0} → DbValue D → DbValue D → Type 0
PinsRise old new =
    (place : ℕ) (p : Pin) → IsPinned new.frames.pins place p
    → IsPinned old.frames.pins place p ⊎ ((flushed_of old ≤ p.commits) × ((state_of old).records ≤ p.length))

module _ {D : Type 0} (device : Disk D) where
  -- The device's clock and its counts don't fall.
  pub record TimeGoesOn (old new : DbValue D) : Type 0 where
    pub time : device.clock (disk_of old) ≤ device.clock (disk_of new)
    pub faults : device.fault_count (disk_of old) ≤ device.fault_count (disk_of new)
    pub writes : device.write_fault_count (disk_of old) ≤ device.write_fault_count (disk_of new)

  -- Nothing is logged: a page is held or given back, the state of the log is asked, a snapshot is
  -- taken into use or given up, the log is flushed, or a record is refused.
  pub record LogsNothing (old new : DbValue D) : Type 0 where
    pub added : HasAdded device old.frames new.frames []
    pub state : KeepsState old.frames new.frames
    pub runs_on : RunsOn device old.frames new.frames
    pub begins : BeginsOn device old.frames.journal new.frames.journal
    pub goes_on : TimeGoesOn old new
    pub pins : PinsRise old new
    pub pending : new.pending ≡ old.pending

  -- This record is logged, after the owed Abort, where one is owed. The log has room for it.
  pub record LogsOne (old new : DbValue D) (r : Record) : Type 0 where
    pub up : IsUp old
    pub added : HasAdded device old.frames new.frames (kind_number r.kind ∷ [])
    pub stands : (R : Log) → Stands device old.frames R
        → Stands device new.frames (logged old.frames.journal.owes r R)
    pub legal : Behind device old.frames
        (λ (R : Log). IsLegal (logged old.frames.journal.owes r R))
    pub state : state_of new ≡ step_of r (state_then old)
    pub work : new.frames.journal.work ≡ old.frames.journal.work
    pub room : length_with old.frames.journal.wal (logged_bytes old.frames.journal r)
        ≤ limit_of old.frames.journal.wal
    pub runs_on : RunsOn device old.frames new.frames
    pub begins : BeginsWith device old.frames.journal new.frames.journal r
    pub goes_on : TimeGoesOn old new
    pub pins : PinsRise old new
    pub pending : new.pending ≡ old.pending

  -- The store goes from one to another by such steps, which log these records, the oldest first.
  pub data Goes (old : DbValue D) : DbValue D → List Record → Type 0 where
    stays : Goes old old []
    nothing : {mid new : DbValue D} {rs : List Record} → Goes old mid rs → LogsNothing mid new
        → Goes old new rs
    one : {mid new : DbValue D} {rs : List Record} {r : Record} → Goes old mid rs → LogsOne mid new r
        → Goes old new (rs ++ r ∷ [])

  -- The device's counts rose in the call, both by a write or a sync that failed: the store has come down
  -- with the count just after it. Until pages are read from the page file, no read fails.
  pub record MetFault (old new : DbValue D) : Type 0 where
    pub up : IsUp old
    pub rose : Rose (device.fault_count (disk_of old)) (device.fault_count (disk_of new))
    pub writes : Rose (device.write_fault_count (disk_of old)) (device.write_fault_count (disk_of new))
    pub down : fault_of new ≡ Some (device.fault_count (disk_of new))

  -- No write and no sync failed: the store is up or down as it was.
  pub record MetNoFault (old new : DbValue D) : Type 0 where
    pub writes : device.write_fault_count (disk_of new) ≡ device.write_fault_count (disk_of old)
    pub down : fault_of new ≡ fault_of old

  -- a fault is met exactly where DiskFault is answered
  abbrev pub FaultIsTold : {T : Type 0} → DbValue D → DbValue D → Result T DbError → Type 0
  FaultIsTold old new (Err DiskFault) = MetFault old new
  FaultIsTold old new answer = MetNoFault old new

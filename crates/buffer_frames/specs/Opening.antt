-- The opening of a journal.
use Rattle.std.specs.Prelude.{◌≡◌, ℕ, ◌<◌, ◌≤◌, [], ◌∷◌, length, Bool, true, false, None, Result, Ok, Err}
use Rattle.disk_trait.specs.Files.{Files}
use Rattle.disk_trait.specs.Device.{last_count, Rose}
use Rattle.disk_trait.specs.Runs.{images_now}
use Rattle.disk_trait.specs.declared.device.Disk.{Ghosts as Disk}
use Rattle.wal.specs.Batches.{front, IsUnborn}
use Rattle.wal.specs.Pages.{KeepsPages}
use Rattle.wal.specs.Reading.{IsOnlyRead}
use Rattle.wal.specs.Waiting.{end_of, limit_of, down_of}
use Rattle.core_state.specs.Log.{Log}
use Rattle.core_state.specs.States.{StateValue}
use Rattle.core_state.specs.declared.settings.Settings.{Settings}
use Rattle.buffer_frames.specs.Counted.{IsCounted}
use Rattle.buffer_frames.specs.First.{first_record}
use Rattle.buffer_frames.specs.NoStore.{IsStoreOf, IsNoStore}
use Rattle.buffer_frames.specs.Opens.{StartedFrom, OpensAsBefore}
use Rattle.buffer_frames.specs.Maps.{HasApplied}
use Rattle.buffer_frames.specs.Journals.{JournalValue, IsJournalOf}
use Rattle.buffer_frames.specs.declared.page_map.PageMap.{PageMap}
use Rattle.buffer_frames.specs.declared.error.OpenFault.{OpenFault}
use Rattle.buffer_frames.specs.declared.error.OpenFault.TheVariants.{NotAStore, DiskFault, OutOfMemory}

-- the log of a journal that was opened where these records count
abbrev pub opened_log : Log → Log
opened_log [] = first_record ∷ []
opened_log (r ∷ R) = r ∷ R

-- an Abort is owed where there was a run before
abbrev pub owes_after : Log → Bool
owes_after [] = false
owes_after (r ∷ R) = true

-- What a device that says what it holds shows of an opening: its files are a store of these
-- records, and the log ends after their batches. Before c0 a crash leaves what it could leave on
-- entry; from c0 on it leaves the pages as they are read, and a log in which these records count.
pub record IsToldOpened {D : Type 0} (device : Disk D) (first : D) (c0 : ℕ) (disk : D)
    (end : ℕ) (R : Log) : Type 0 where
  pub store : IsStoreOf (device.seen first) R
  pub end_is : end ≡ length (front store.counted.batches)
  pub began : (device.clock first ≤ c0) × (c0 ≤ device.clock disk)
  pub early : (m : ℕ) (c : Files) → device.clock first ≤ m → m < c0 → device.image disk m c
      → images_now device first c
  pub late : (m : ℕ) (c : Files) → c0 ≤ m → m ≤ device.clock disk → device.image disk m c
      → IsCounted c.log R × (c.pages ≡ (device.seen first).pages)

-- A journal just after its opening, and its device on entry. `counted` are the records that count.
pub record IsOpenedAt {D : Type 0} (device : Disk D) (settings : Settings) (first : D) (c0 : ℕ)
    (j : JournalValue D) (map : PageMap) : Type 0 where
  pub counted : Log
  pub stands : IsJournalOf device j (opened_log counted)
  pub none_lost : stands.counted ≡ counted
  pub owes : j.owes ≡ owes_after counted
  pub up : down_of j.wal ≡ None
  pub limit : limit_of j.wal ≡ settings.log_limit
  pub pages : j.state.pages ≡ settings.pages
  pub xid_limit : j.state.xid_limit ≡ settings.xid_limit
  pub time : device.clock first ≤ device.clock j.disk
  pub no_fall : device.fault_count first ≤ device.fault_count j.disk
  pub no_write_failed : device.write_fault_count j.disk ≡ device.write_fault_count first
  pub below_last : (device.fault_count first < last_count)
      × (device.write_fault_count j.disk < last_count)
  pub told : device.tells → IsToldOpened device first c0 j.disk (end_of j.wal) counted
  pub applied : device.tells → HasApplied (device.seen first).pages counted map

-- What an opening that is refused leaves of its device, whatever the cause. A crash leaves what opens
-- to what the files on entry could open to, and the pages are read as before. A log that is born is
-- only read, and so are files that are no store.
pub record LeavesRefused {D : Type 0} (device : Disk D) (first : D) (e : D × OpenFault) : Type 0 where
  pub opens : device.tells → StartedFrom device first → OpensAsBefore device first e.0
  pub keeps_pages : device.tells → KeepsPages device first e.0
  pub pages : device.tells → (device.seen e.0).pages ≡ (device.seen first).pages
  pub born : device.tells → (IsUnborn (device.seen first).log → ⊥) → IsOnlyRead device first e.0
  pub no_store : device.tells → IsNoStore (device.seen first) → IsOnlyRead device first e.0
  pub not_a_store : e.1 ≡ NotAStore → IsOnlyRead device first e.0
  pub fault : e.1 ≡ DiskFault → Rose (device.fault_count first) (device.fault_count e.0)
  pub memory : e.1 ≡ OutOfMemory → device.write_fault_count e.0 ≡ device.write_fault_count first
  pub later : device.fault_count first ≤ device.fault_count e.0
  pub time : device.clock first ≤ device.clock e.0

-- what was answered, without the device
abbrev pub without_disk : {D T : Type 0} → Result T (D × OpenFault) → Result T OpenFault
without_disk (Ok x) = Ok x
without_disk (Err e) = Err e.1

-- a run has begun: the highest heap page comes first, and no slot was freed
abbrev pub HasStarted : StateValue → Type 0
HasStarted s = (s.current ≡ s.highest) × (s.freed ≡ [])

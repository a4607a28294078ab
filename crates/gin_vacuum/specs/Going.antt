-- How calls of a pass with the right of maintenance go on that take dead documents out: what they log.
use Rattle.std.specs.Prelude.{◌≡◌, ◌<◌, ◌≤◌, ℕ, List, length}
use Rattle.std.specs.List.{AllByRecursion}
use Rattle.disk_trait.specs.declared.device.Disk.{Ghosts as Disk}
use Rattle.wal.specs.Waiting.{limit_of, length_with}
use Rattle.page_types.specs.Records.{kind_number}
use Rattle.core_state.specs.Log.{Log, In}
use Rattle.core_state.specs.Allowed.{Step}
use Rattle.core_state.specs.History.{History, IsHistory}
use Rattle.core_state.specs.States.{StateValue, heap_pages}
use Rattle.buffer_frames.specs.Beginnings.{BeginsBy}
use Rattle.buffer_frames.specs.Drawing.{HasEncoding}
use Rattle.buffer_frames.specs.Frames.{FramesValue, RunsOn}
use Rattle.buffer_frames.specs.Journals.{logged_bytes, next_record}
use Rattle.buffer_frames.specs.Passes.{IsPassOf, GoesOnBy, HasAdded, PassRises}
use Rattle.buffer_frames.specs.declared.pass.Pass.{Pass}
use Rattle.gin_place.specs.Running.{DiskRises, BeginsThen, RecordsRise}

-- the kinds of the records by which dead documents go: RemoveItems, DeletePost, DropPage, FreeSlots
abbrev pub IsVacuumKind : ℕ → Type 0
IsVacuumKind k = (18 ≤ k) × (k ≤ 21)

-- the commits are as they were, and so are the heap pages
pub record KeepsCommits (old new : StateValue) : Type 0 where
  pub pages : new.pages ≡ old.pages
  pub deleted : new.deleted ≡ old.deleted
  pub heaps : new.heaps ≡ old.heaps

-- the pages that a head is tried on are heap pages of the log
abbrev pub AreRooms : StateValue → Type 0
AreRooms s = (p : ℕ) → In p (heap_pages s) → In p s.heaps

-- they are so still, where the journal stands for a log and its history
abbrev pub KeepsRooms : {D : Type 0} → Disk D → FramesValue D → FramesValue D → Type 0
KeepsRooms device old new =
    device.tells → (found : History) (R : Log) (H : History) → BeginsBy device old.journal found R H
    → AreRooms old.journal.state → AreRooms new.journal.state

-- The pass has its pin, its transaction, its right and its room, has seen no less, and the records that
-- were logged are of these kinds, which leave the history; what a crash leaves opens to a beginning of it.
pub record VacuumsOn {D : Type 0} (device : Disk D) (f : FramesValue D) (pass : Pass) (f' : FramesValue D)
    (pass' : Pass) (kinds : List ℕ) : Type 0 where
  pub is_pass : IsPassOf f' pass'
  pub added : HasAdded device f f' kinds
  pub vacuum : AllByRecursion IsVacuumKind kinds
  pub history : (R R' : Log) (H : History) → GoesOnBy f.journal.owes R R' kinds → IsHistory R H → IsHistory R' H
  pub rises : PassRises pass pass'
  pub pin : pass'.pin ≡ pass.pin
  pub room : pass'.room ≡ pass.room
  pub xid : pass'.xid ≡ pass.xid
  pub work : pass'.work ≡ pass.work
  pub pins : f'.pins ≡ f.pins
  pub disk : DiskRises device f.journal.disk f'.journal.disk
  pub state : KeepsCommits f.journal.state f'.journal.state
  pub records : RecordsRise kinds f.journal.state.records f'.journal.state.records
  pub runs : RunsOn device f f'
  pub begins : BeginsThen device f f' kinds
  pub rooms : KeepsRooms device f f'

-- the log would pass its limit with the record of such a step that has one
pub record HasNoRoom {D : Type 0} (f : FramesValue D) : Type 0 where
  pub step : Step
  pub vacuum : IsVacuumKind (kind_number step.kind)
  pub encoded : HasEncoding step
  pub pages : length step.after ≤ 3
  pub over : limit_of f.journal.wal < length_with f.journal.wal (logged_bytes f.journal (next_record f.journal step))

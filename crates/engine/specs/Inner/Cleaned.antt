-- Work on the index: how the frames go on, and what a cleanup is answered.
use Rattle.std.specs.Prelude.{◌≡◌, ℕ, List, ⊤, None}
use Rattle.std.specs.List.{AllByRecursion}
use Rattle.disk_trait.specs.declared.device.Disk.{Ghosts as Disk}
use Rattle.wal.specs.Waiting.{down_of}
use Rattle.page_types.specs.declared.page.Row.{Row}
use Rattle.core_state.specs.History.{History}
use Rattle.core_state.specs.Log.{Log}
use Rattle.snap_pins.specs.Taken.{IsPinned}
use Rattle.snap_pins.specs.declared.Pin.{Pin}
use Rattle.buffer_frames.specs.Beginnings.{BeginsBy}
use Rattle.buffer_frames.specs.Frames.{FramesValue, Stands, Behind, RunsOn}
use Rattle.buffer_frames.specs.Passes.{IsPassOf, HasAdded, PassRises}
use Rattle.buffer_frames.specs.declared.pass.Pass.{Pass}
use Rattle.gin_place.specs.Causes.{HasNumbers}
use Rattle.gin_place.specs.Running.{DiskRises, BeginsThen}
use Rattle.gin_place.specs.declared.error.PlaceError.{PlaceError}
use Rattle.gin_place.specs.declared.error.PlaceError.TheVariants.{StoreFull, LogFull, DiskFault, Down, BadPage}
use Rattle.gin_place.specs.declared.error.PlaceError.TheVariants.{OutOfMemory}
use Rattle.gin_cleanup.specs.Cleaning.{IsStillIn}
use Rattle.gin_cleanup.specs.Going.{IsCleaningKind}
use Rattle.gin_vacuum.specs.Going.{KeepsCommits, KeepsRooms}
use Rattle.engine.specs.Cleaning.{Comes}
use Rattle.engine.specs.Db.{DbValue}
use Rattle.engine.specs.Going.{PinsRise}

-- How calls go on that log such records: the device, the commits, what a crash leaves.
pub record IndexGoesOn {D : Type 0} (device : Disk D) (old new : FramesValue D) (kinds : List ℕ) : Type 0 where
  pub rises : DiskRises device old.journal.disk new.journal.disk
  pub state : KeepsCommits old.journal.state new.journal.state
  pub rooms : KeepsRooms device old new
  pub runs : RunsOn device old new
  pub begins : BeginsThen device old new kinds

module _ {D : Type 0} (device : Disk D) (Is : ℕ → Type 0) (f : FramesValue D) (p : Pass) (g : FramesValue D)
    (q : Pass) where
  -- The pass has its pin, its transaction and its room, and has seen no less; the records that were logged are of
  -- such kinds.
  pub record WorksThrough (kinds : List ℕ) : Type 0 where
    pub is_pass : IsPassOf g q
    pub added : HasAdded device f g kinds
    pub are : AllByRecursion Is kinds
    pub rises : PassRises p q
    pub pin : q.pin ≡ p.pin
    pub room : q.room ≡ p.room
    pub xid : q.xid ≡ p.xid
    pub pins : g.pins ≡ f.pins
    pub goes : IndexGoesOn device f g kinds

-- those of a cleanup
abbrev pub CleansThrough : {D : Type 0} → Disk D → FramesValue D → Pass → FramesValue D → Pass → List ℕ → Type 0
CleansThrough device f p g q kinds = WorksThrough device IsCleaningKind f p g q kinds

module _ {D : Type 0} (device : Disk D) where
  -- no row that was linked when the log had n records is still linked
  abbrev pub AreGoneSince : ℕ → FramesValue D → Type 0
  AreGoneSince n g = Behind device g (λ (R : Log). (w : Row) → IsStillIn n R w → ⊥)

  -- why a cleanup ends early that began when the log was up: there it is never down
  abbrev pub EndsBy : FramesValue D → FramesValue D → PlaceError → Type 0
  EndsBy f g StoreFull = Comes device f g StoreFull
  EndsBy f g LogFull = Comes device f g LogFull
  EndsBy f g (BadPage p) = Comes device f g (BadPage p)
  EndsBy f g (Down n) = ⊥
  EndsBy f g DiskFault = ⊤
  EndsBy f g OutOfMemory = ⊤

  -- a lawful store meets no bad page
  abbrev pub NeverBad : FramesValue D → PlaceError → Type 0
  NeverBad f (BadPage p) =
      device.tells → down_of f.journal.wal ≡ None → HasNumbers f → (found : History) (R : Log) (H : History)
      → BeginsBy device f.journal found R H → Stands device f R → ⊥
  NeverBad f e = ⊤

  -- a store goes on by records of such kinds
  pub record WorksUp (Is : ℕ → Type 0) (old new : DbValue D) (kinds : List ℕ) : Type 0 where
    pub added : HasAdded device old.frames new.frames kinds
    pub are : AllByRecursion Is kinds
    pub goes : IndexGoesOn device old.frames new.frames kinds
    pub pins : PinsRise old new
    pub pending : new.pending ≡ old.pending

  -- by a cleanup
  abbrev pub CleansUp : DbValue D → DbValue D → List ℕ → Type 0
  CleansUp old new kinds = WorksUp IsCleaningKind old new kinds

-- each snapshot that was in use is so still
abbrev pub PinsStay : {D : Type 0} → DbValue D → DbValue D → Type 0
PinsStay old new = (place : ℕ) (p : Pin) → IsPinned old.frames.pins place p → IsPinned new.frames.pins place p

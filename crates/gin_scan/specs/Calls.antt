-- What a call of a scan leaves as it was.
use Rattle.std.specs.Prelude.{◌≡◌, ◌⊎◌, ℕ, suc, ◌≤◌, Bool, true, false, [], None, MatchOption, slice_set}
use Rattle.disk_trait.specs.declared.device.Disk.{Ghosts as Disk}
use Rattle.page_types.specs.declared.page.Page.{Page}
use Rattle.snap_pins.specs.Taken.{IsPinned}
use Rattle.snap_pins.specs.declared.Pin.{Pin}
use Rattle.buffer_frames.specs.Beginnings.{BeginsOn}
use Rattle.buffer_frames.specs.Frames.{FramesValue, RunsOn, KeepsState, Lies}
use Rattle.buffer_frames.specs.LogCauses.{IsCalm}
use Rattle.buffer_frames.specs.Passes.{IsPassOf, HasAdded, PassRises}
use Rattle.buffer_frames.specs.declared.pass.Pass.{Pass}
use Rattle.gin_scan.specs.declared.scan_core.ScanCore.{ScanCore}

-- A snapshot that is in use was so before, or has all commits that were flushed, and is of a log that is
-- no shorter than it was.
abbrev pub PinsRise : {D : Type 0} → FramesValue D → FramesValue D → Type 0
PinsRise old new =
    (place : ℕ) (p : Pin) → IsPinned new.pins place p
    → IsPinned old.pins place p ⊎ ((old.journal.flushed ≤ p.commits) × (old.journal.state.records ≤ p.length))

-- One call that logs nothing: the log and its state are as they were, and the device's clock and its
-- counts don't fall.
pub record AddsOnce {D : Type 0} (device : Disk D) (old new : FramesValue D) : Type 0 where
  pub added : HasAdded device old new []
  pub state : KeepsState old new
  pub runs_on : RunsOn device old new
  pub begins : BeginsOn device old.journal new.journal
  pub time : device.clock old.journal.disk ≤ device.clock new.journal.disk
  pub faults : device.fault_count old.journal.disk ≤ device.fault_count new.journal.disk
  pub writes : device.write_fault_count old.journal.disk ≤ device.write_fault_count new.journal.disk
  pub pins : PinsRise old new

-- The frames go from one to another by calls that log nothing.
pub data AddsNothing {D : Type 0} (device : Disk D) (old : FramesValue D) : FramesValue D → Type 0 where
  stays : AddsNothing device old old
  then : {mid new : FramesValue D} → AddsNothing device old mid → AddsOnce device mid new
      → AddsNothing device old new

-- The pass has the same transaction, room and right of maintenance, and what it has seen does not fall.
pub record KeepsWork (old new : Pass) : Type 0 where
  pub xid : new.xid ≡ old.xid
  pub room : new.room ≡ old.room
  pub work : new.work ≡ old.work
  pub rises : PassRises old new

-- What lay in memory lies there still.
abbrev pub LieStill : {D : Type 0} → FramesValue D → FramesValue D → Type 0
LieStill old new = (p : ℕ) (c : Page) → Lies old p c → Lies new p c

-- A call that reads: nothing is logged, one page at most is held and none then, and the snapshots in use are
-- the same.
pub record ReadsOn {D : Type 0} (device : Disk D) (old : FramesValue D) (pass : Pass) (new : FramesValue D)
    (pass' : Pass) : Type 0 where
  pub is_pass : IsPassOf new pass'
  pub held : pass'.held ≡ 0
  pub adds : AddsNothing device old new
  pub lying : LieStill old new
  pub keeps : KeepsWork pass pass'
  pub one_page : pass'.holds ≤ suc pass.holds
  pub pin : pass'.pin ≡ pass.pin
  pub pins : new.pins ≡ old.pins

-- The beginning of a scan, or its refusal: nothing is logged or read, and no write fails.
pub record BeginsReading {D : Type 0} (device : Disk D) (old : FramesValue D) (pass : Pass) (new : FramesValue D)
    (pass' : Pass) : Type 0 where
  pub is_pass : IsPassOf new pass'
  pub held : pass'.held ≡ 0
  pub adds : AddsNothing device old new
  pub lying : LieStill old new
  pub keeps : KeepsWork pass pass'
  pub holds : pass'.holds ≡ pass.holds
  pub calm : IsCalm device old.journal new.journal

-- the pass gives up its snapshot, or keeps it
abbrev pub GivesUp : {D : Type 0} → Bool → FramesValue D → Pass → FramesValue D → Pass → Type 0
GivesUp true old pass new pass' =
    (pass'.pin ≡ None)
    × MatchOption pass.pin (new.pins ≡ old.pins) (λ p. new.pins ≡ slice_set old.pins p.place None)
GivesUp false old pass new pass' = (pass'.pin ≡ pass.pin) × (new.pins ≡ old.pins)

-- The end of a scan: nothing is logged, no page is held, and the pass gives up the snapshot that the
-- scan took.
pub record EndsReading {D : Type 0} (device : Disk D) (s : ScanCore) (old : FramesValue D) (pass : Pass)
    (new : FramesValue D) (pass' : Pass) : Type 0 where
  pub is_pass : IsPassOf new pass'
  pub held : pass'.held ≡ 0
  pub adds : AddsNothing device old new
  pub journal : new.journal ≡ old.journal
  pub lying : LieStill old new
  pub keeps : KeepsWork pass pass'
  pub holds : pass'.holds ≡ pass.holds
  pub pin : GivesUp s.took_pin old pass new pass'

-- What pages in memory over a journal stand for.
use Rattle.std.specs.Prelude.{◌≡◌, ◌<◌, ◌≤◌, ℕ, List, Option, None}
use Rattle.disk_trait.specs.Files.{Files}
use Rattle.disk_trait.specs.declared.device.Disk.{Ghosts as Disk}
use Rattle.wal.specs.Waiting.{limit_of, down_of}
use Rattle.wal.specs.Pages.{KeepsPages}
use Rattle.page_types.specs.declared.page.Page.{Page}
use Rattle.core_state.specs.Allowed.{Sheet}
use Rattle.core_state.specs.Log.{Log, In, replay}
use Rattle.core_state.specs.Legal.{IsLegal, Pin, Keeps}
use Rattle.core_state.specs.Logged.{pin_now}
use Rattle.snap_pins.specs.Taken.{IsPinned}
use Rattle.snap_pins.specs.declared.Pin.{Pin as PinInUse}
use Rattle.buffer_frames.specs.Beginnings.{KeepsSince}
use Rattle.buffer_frames.specs.Homes.{home_at, ShowsBytes, HavePages, LiesAs}
use Rattle.buffer_frames.specs.Journals as journals
use Rattle.buffer_frames.specs.Journals.{JournalValue}
use Rattle.buffer_frames.specs.declared.home.Home.{Home}

-- What contracts see: the journal, the snapshots in use, and where each page is.
pub record FramesValue (D : Type 0) : Type 0 where
  pub journal : JournalValue D
  pub pins : List (Option PinInUse)
  pub homes : List Home

-- each page that is here has the bytes of the log's replay
abbrev pub HomesShow : List Home → Log → Type 0
HomesShow homes R = (p : ℕ) → ShowsBytes (home_at homes p) (replay R p)

-- a snapshot in use, as a log keeps it
abbrev pub pin_of : PinInUse → Pin
pin_of p = record { commits = p.commits; length = p.length }

-- the log keeps each snapshot in use, and the one that a statement would take now
pub record KeepsPins (R : Log) (pins : List (Option PinInUse)) (flushed : ℕ) : Type 0 where
  pub each : (place : ℕ) (p : PinInUse) → IsPinned pins place p → Keeps R (pin_of p)
  pub now : Keeps R (pin_now flushed R)

-- The journal stands for the log. Where it is a legal one, the device says what it holds, and nothing
-- has failed, each page that is here is its replay, and it keeps the snapshots in use.
pub record Stands {D : Type 0} (device : Disk D) (f : FramesValue D) (R : Log) : Type 0 where
  pub journal : journals.IsJournalOf device f.journal R
  pub homes : device.tells → down_of f.journal.wal ≡ None → IsLegal R → HomesShow f.homes R
  pub pins : device.tells → down_of f.journal.wal ≡ None → IsLegal R
      → KeepsPins R f.pins f.journal.flushed

-- X holds of each legal log that the frames stand for, where the device says what it holds and
-- nothing has failed
abbrev pub Behind : {D : Type 0} → Disk D → FramesValue D → (Log → Type 0) → Type 0
Behind device f X =
    device.tells → down_of f.journal.wal ≡ None → (R : Log) → Stands device f R → IsLegal R → X R

-- the frames stand for some log, which isn't empty, and each page that lies there as one has an
-- encoding
pub record AreFrames {D : Type 0} (device : Disk D) (f : FramesValue D) : Type 0 where
  pub log : Log
  pub stands : Stands device f log
  pub some : 0 < f.journal.state.records
  pub pages : HavePages f.homes

-- Of each call: the log's limit and the device just after the opening stay; no fewer commits are
-- flushed; at an earlier moment a crash left no more than it did, and it goes on to leave the commits
-- that it left; it leaves pages that it could have left before; and what is up was up.
pub record RunsOn {D : Type 0} (device : Disk D) (old new : FramesValue D) : Type 0 where
  pub limit : limit_of new.journal.wal ≡ limit_of old.journal.wal
  pub opened : new.journal.opened ≡ old.journal.opened
  pub flushed : old.journal.flushed ≤ new.journal.flushed
  pub before : device.tells → (m : ℕ) (c : Files) → m ≤ device.clock old.journal.disk
      → device.image new.journal.disk m c → device.image old.journal.disk m c
  pub since : KeepsSince device old.journal new.journal
  pub pages : device.tells → KeepsPages device old.journal.disk new.journal.disk
  pub up : down_of new.journal.wal ≡ None → down_of old.journal.wal ≡ None

-- the state of the records, whether an Abort is owed, and who has the right of maintenance are as they were
pub record KeepsState {D : Type 0} (old new : FramesValue D) : Type 0 where
  pub state : new.journal.state ≡ old.journal.state
  pub owes : new.journal.owes ≡ old.journal.owes
  pub work : new.journal.work ≡ old.journal.work

-- this page lies in memory under this number, and nobody holds it
abbrev pub Lies : {D : Type 0} → FramesValue D → ℕ → Page → Type 0
Lies f p c = LiesAs (home_at f.homes p) c

-- so does each of these, under its number
abbrev pub LieThere : {D : Type 0} → FramesValue D → List Sheet → Type 0
LieThere f xs = (x : Sheet) → In x xs → Lies f x.page x.content

-- under every other number than these lies what lay there
abbrev pub KeepsOthers : {D : Type 0} → FramesValue D → FramesValue D → List ℕ → Type 0
KeepsOthers old new ps = (p : ℕ) → (In p ps → ⊥) → home_at new.homes p ≡ home_at old.homes p

-- Passes: what a session has seen of the log, and how crates above speak of it.
use Rattle.std.specs.Prelude.{◌≡◌, ◌≢◌, ℕ, ◌+◌, ◌<◌, ◌≤◌, min, max, List, [], ◌∷◌, ◌++◌, length}
use Rattle.std.specs.Prelude.{map, reverse, Bool, true, false, Option, Some, None, IfSome, slice_set}
use Rattle.std.specs.List.{AllByRecursion}
use Rattle.disk_trait.specs.Device.{last_count}
use Rattle.disk_trait.specs.declared.device.Disk.{Ghosts as Disk}
use Rattle.wal.specs.Waiting.{down_of}
use Rattle.page_types.specs.Keys.{Rising}
use Rattle.page_types.specs.Records.{kind_number}
use Rattle.page_types.specs.declared.record.Kind.{Kind}
use Rattle.page_types.specs.declared.record.Kind.TheVariants as kind
use Rattle.page_types.specs.declared.record.Record.{Record}
use Rattle.core_state.specs.Log.{Log, Pages, Shows, cut}
use Rattle.core_state.specs.History.{History, Begins}
use Rattle.core_state.specs.Legal.{Pin}
use Rattle.core_state.specs.Allowed.{Sheet, View, IsAllowed, Step, IsDrawn, Leaves, sheet_pages}
use Rattle.snap_pins.specs.Taken.{IsPinned, IsFree}
use Rattle.snap_pins.specs.declared.Pin.{Pin as PinInUse}
use Rattle.buffer_frames.specs.Beginnings.{BeginsBy, BeginsOn}
use Rattle.buffer_frames.specs.Journals.{JournalValue, with_owed}
use Rattle.buffer_frames.specs.Homes.{IsAway}
use Rattle.buffer_frames.specs.Frames.{FramesValue, Stands, Behind, KeepsOthers}
use Rattle.buffer_frames.specs.declared.pass.Pass.{Pass}
use Rattle.buffer_frames.specs.declared.pass.Pinned.{Pinned}

-- a pass's snapshot, as a log keeps it
abbrev pub pin_in : Option Pinned → Option Pin
pin_in None = None
pin_in (Some s) = Some (record { commits = s.commits; length = s.length })

-- and as it is in use
abbrev pub in_use : Pinned → PinInUse
in_use s = record { commits = s.commits; length = s.length }

-- the xid, if there is one
abbrev pub xids_of : Option ℕ → List ℕ
xids_of None = []
xids_of (Some x) = x ∷ []

-- somebody has the right, and no record with a number above n is maintenance
abbrev pub IsRightOf : Option ℕ → ℕ → Type 0
IsRightOf None n = ⊥
IsRightOf (Some m) n = m ≤ n

-- The pass has seen some of the log and no more than it, and all of it while it has an xid; it has
-- none while the Abort of all that ran before is owed; the commits that it was shown are flushed; its
-- snapshot has its place, and else one is free; it holds fewer than five pages; its floor and since
-- are above no snapshot's numbers, nor those of the log; and if it has the right of maintenance, no
-- record is maintenance that it has not seen and that came after it got the right.
pub record IsPassOf {D : Type 0} (f : FramesValue D) (pass : Pass) : Type 0 where
  pub some : 0 < pass.seen
  pub seen : pass.seen ≤ f.journal.state.records
  pub all : IfSome pass.xid (λ x. pass.seen ≡ f.journal.state.records)
  pub none_owed : f.journal.owes ≡ true → pass.xid ≡ None
  pub shown : pass.shown ≤ f.journal.flushed
  pub pin : IfSome pass.pin
      (λ s. IsPinned f.pins s.place (in_use s) × (s.length ≤ pass.seen))
  pub free : pass.pin ≡ None → (place : ℕ) × IsFree f.pins place
  pub few : pass.held < 5
  pub now : (pass.floor ≤ f.journal.flushed) × (pass.since ≤ f.journal.state.records)
  pub below : (place : ℕ) (p : PinInUse) → IsPinned f.pins place p
      → (pass.floor ≤ p.commits) × (pass.since ≤ p.length)
  pub work : IfSome pass.work
      (λ at. (at ≤ f.journal.state.records) × IsRightOf f.journal.work (max at pass.seen))

-- what the pass knows, where the frames stand for this log and it holds these pages
abbrev pub view_of : {D : Type 0} → FramesValue D → Pass → Log → List Sheet → View
view_of f pass R held = record {
  seen = cut pass.seen R;
  pin = pin_in pass.pin;
  floor = pass.floor;
  since = pass.since;
  from = 0;
  readings = [];
  held = held;
  xids = xids_of pass.xid;
  begun = xids_of pass.xid;
  work = pass.work;
}

-- X holds of the log that the pass has seen and of its pages
abbrev pub Seen : {D : Type 0} → Disk D → FramesValue D → Pass → (Log → Pages → Type 0) → Type 0
Seen device f pass X =
    Behind device f (λ R. (P : Pages) → Shows (cut pass.seen R) P → X (cut pass.seen R) P)

-- the pass holds these pages and no other, each once; the log at hand is allowed to it
pub record IsHolding {D : Type 0} (device : Disk D) (f : FramesValue D) (pass : Pass)
    (held : List Sheet) : Type 0 where
  pub all : length held ≡ pass.held
  pub away : AllByRecursion (λ (x : Sheet). IsAway f.homes x.page × (x.page < length f.homes)) held
  pub once : Rising (λ (p q : ℕ). p ≢ q) (sheet_pages held)
  pub allowed : Behind device f (λ R. IsAllowed (view_of f pass R held) R)

-- the kinds of records by their numbers, the oldest first
abbrev pub kinds_of : Log → List ℕ
kinds_of R = map (λ (r : Record). kind_number r.kind) (reverse R)

-- a log that records of these kinds come after: with the owed Abort, where one is owed and some come
abbrev pub before_more : Bool → List ℕ → Log → Log
before_more owes [] R = R
before_more owes (k ∷ kinds) R = with_owed owes R

-- whether it is still owed after them
abbrev pub still_owed : Bool → List ℕ → Bool
still_owed owes [] = owes
still_owed owes (k ∷ kinds) = false

-- a log goes on by records of these kinds, in this order, after the owed Abort, where one is owed
-- and some record comes
pub record GoesOnBy (owes : Bool) (R R' : Log) (kinds : List ℕ) : Type 0 where
  pub added : Log
  pub log_is : R' ≡ added ++ before_more owes kinds R
  pub kinds_are : kinds_of added ≡ kinds

-- The new log is the old one and records of these kinds, in this order. A journal that is up was up
-- before.
pub record HasAdded {D : Type 0} (device : Disk D) (old new : FramesValue D) (kinds : List ℕ)
    : Type 0 where
  pub on : (R : Log) → Stands device old R
      → (R' : Log) × Stands device new R' × GoesOnBy old.journal.owes R R' kinds
  pub back : device.tells → down_of new.journal.wal ≡ None → (R' : Log) → Stands device new R'
      → (R : Log) × Stands device old R × GoesOnBy old.journal.owes R R' kinds
  pub was_up : down_of new.journal.wal ≡ None → down_of old.journal.wal ≡ None
  pub owes : new.journal.owes ≡ still_owed old.journal.owes kinds
  pub longer : old.journal.state.records ≤ new.journal.state.records

-- Of calls that log records of these kinds, one after another: a log and its history go on, and what a
-- crash leaves goes on to open to a beginning of the history.
abbrev pub KeepsOn : {D : Type 0} → Disk D → FramesValue D → FramesValue D → List ℕ → Type 0
KeepsOn device old new kinds =
    device.tells → (found : History) (R : Log) (H : History) → BeginsBy device old.journal found R H
    → Stands device old R → (R' : Log) × (H' : History) × GoesOnBy old.journal.owes R R' kinds × Begins H H'
    × Stands device new R' × BeginsBy device new.journal found R' H'

-- the pass has the snapshot, as many pages, the room, the xid and the right that it had, and has held
-- as many pages
pub record KeepsPass (old new : Pass) : Type 0 where
  pub pin : new.pin ≡ old.pin
  pub held : new.held ≡ old.held
  pub holds : new.holds ≡ old.holds
  pub room : new.room ≡ old.room
  pub xid : new.xid ≡ old.xid
  pub work : new.work ≡ old.work

-- the right of maintenance is where it was
abbrev pub KeepsRight : {D : Type 0} → FramesValue D → FramesValue D → Pass → Pass → Type 0
KeepsRight old new pass pass' = (pass'.work ≡ pass.work) × (new.journal.work ≡ old.journal.work)

-- what it has seen, what it was shown, its floor and its since don't fall
pub record PassRises (old new : Pass) : Type 0 where
  pub seen : old.seen ≤ new.seen
  pub shown : old.shown ≤ new.shown
  pub floor : old.floor ≤ new.floor
  pub since : old.since ≤ new.since

-- The log is one that was allowed to a session, and after it the record of the step, maybe after
-- the owed Abort; these are its pages.
pub record IsLogged (v : View) (step : Step) (S : Log) (Q : Pages) : Type 0 where
  pub log : Log
  pub newest : Record
  pub log_is : S ≡ newest ∷ log
  pub allowed : IsAllowed v log
  pub drawn : IsDrawn log step newest
  pub leaves : Leaves allowed.pages Q newest step

-- what the pass had seen has been gone on from by others
abbrev pub SeesOn : {D : Type 0} → Disk D → FramesValue D → Pass → Pass → Type 0
SeesOn device f old new = Seen device f new (λ S P. IsAllowed (view_of f old S []) S)

-- Of a call that takes a snapshot into use, or gives it up: journal and pages are as they were, the
-- pass sees the log go on, and it has the pages, the room, the xid and the right that it had.
pub record KeepsAllButPin {D : Type 0} (device : Disk D) (old new : FramesValue D) (was now : Pass)
    : Type 0 where
  pub sees_on : SeesOn device new was now
  pub holding : (held : List Sheet) → IsHolding device old was held → IsHolding device new now held
  pub added : HasAdded device old new []
  pub same : (now.held ≡ was.held) × (now.room ≡ was.room) × (now.xid ≡ was.xid)
  pub right : KeepsRight old new was now
  pub holds : now.holds ≡ was.holds
  pub rises : PassRises was now
  pub journal : new.journal ≡ old.journal
  pub begins : BeginsOn device old.journal new.journal
  pub others : KeepsOthers old new []

-- nobody has the right of maintenance
abbrev pub IsRightFree : {D : Type 0} → FramesValue D → Type 0
IsRightFree f = f.journal.work ≡ None

-- frames of which nothing has changed but who has the right
abbrev pub with_right : {D : Type 0} → Option ℕ → FramesValue D → FramesValue D
with_right work f = record f { journal = record f.journal { work = work } }

-- The pass has got the right at the log's length, and nothing else has changed.
pub record HasClaimed {D : Type 0} (old new : FramesValue D) (was now : Pass) : Type 0 where
  pub frames : new ≡ with_right (Some old.journal.state.records) old
  pub pass : now ≡ record was { work = Some old.journal.state.records }

-- how many pages a pass has held, after one more: the count stays at its last number
abbrev pub holds_after : ℕ → ℕ
holds_after holds = min (holds + 1) last_count

-- the xid of a pass that has logged a record of this kind, which drew this value
abbrev pub xid_after : Kind → ℕ → Option ℕ → Option ℕ
xid_after kind.Begin value xid = Some value
xid_after (kind.Commit n) value xid = None
xid_after kind.Abort value xid = None
xid_after k value xid = xid

-- The pass has a snapshot of so many commits, all that are flushed, at the log's length, in a place
-- that was free; it has seen all of the log, and was shown these commits.
pub record HasPinned {D : Type 0} (old new : FramesValue D) (pass : Pass) (n : ℕ) : Type 0 where
  pub place : ℕ
  pub free : IsFree old.pins place
  pub pins : new.pins ≡ slice_set old.pins place
      (Some (record { commits = n; length = new.journal.state.records }))
  pub pin : pass.pin ≡ Some (record {
    place = place;
    commits = n;
    length = new.journal.state.records;
  })
  pub commits : n ≡ new.journal.flushed
  pub shown : pass.shown ≡ n
  pub seen : pass.seen ≡ new.journal.state.records

-- the pass has seen all of the journal's log, and has all room
abbrev pub IsWhole : {D : Type 0} → JournalValue D → Pass → Type 0
IsWhole j pass = pass ≡ record {
  seen = j.state.records;
  shown = j.flushed;
  floor = j.flushed;
  since = j.state.records;
  pin = None;
  held = 0;
  holds = 0;
  xid = None;
  room = 16;
  work = None;
}

-- a pass that is made of another, of room 1, without the right of maintenance; it has held no page
abbrev pub split_of : Pass → Pass
split_of pass = record pass { pin = None; held = 0; holds = 0; xid = None; room = 1; work = None }

-- the right of maintenance of two passes, one of which may have it
abbrev pub either_right : Option ℕ → Option ℕ → Option ℕ
either_right None other = other
either_right (Some at) other = Some at

-- a pass in which another ends; the pages that it has held are its own
abbrev pub joined_with : Pass → Pass → Pass
joined_with other pass = record pass {
  seen = max pass.seen other.seen;
  shown = max pass.shown other.shown;
  floor = max pass.floor other.floor;
  since = max pass.since other.since;
  room = pass.room + other.room;
  work = either_right pass.work other.work;
}

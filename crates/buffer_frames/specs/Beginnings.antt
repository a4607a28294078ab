-- What the images since the opening of a journal open to.
use Rattle.std.specs.Prelude.{◌≡◌, ℕ, ◌≤◌, length, None}
use Rattle.disk_trait.specs.Files.{Files}
use Rattle.disk_trait.specs.Runs.{LeavesOnly}
use Rattle.disk_trait.specs.declared.device.Disk.{Ghosts as Disk}
use Rattle.wal.specs.Waiting.{down_of}
use Rattle.page_types.specs.declared.record.Record.{Record}
use Rattle.core_state.specs.Log.{Log}
use Rattle.core_state.specs.History.{History, Begins}
use Rattle.buffer_frames.specs.Opens.{IsLogOf, OpensTo}
use Rattle.buffer_frames.specs.Journals.{JournalValue, IsJournalOf, CountsEither, logged}

-- The journal stands for this log of this history, which goes on from the one that was found at its
-- opening. What a crash at a moment since then leaves opens to a history between these two: one that
-- goes on from what was found, and is a beginning of the journal's. At an earlier moment a crash left
-- no more than it did at the opening.
pub record BeginsBy {D : Type 0} (device : Disk D) (j : JournalValue D) (found : History) (R : Log)
    (H : History) : Type 0 where
  pub stands : IsJournalOf device j R
  pub log_of : IsLogOf R H
  pub goes_on : Begins found H
  pub later : device.clock j.opened ≤ device.clock j.disk
  pub images : (m : ℕ) (c : Files) → device.clock j.opened ≤ m → m ≤ device.clock j.disk
      → device.image j.disk m c → (kept : History) × OpensTo c kept × Begins found kept × Begins kept H
  pub before : (m : ℕ) (c : Files) → m ≤ device.clock j.opened → device.image j.disk m c
      → device.image j.opened m c

-- just after an opening it is so of the history that the files open to
abbrev pub BeginsOpened : {D : Type 0} → Disk D → JournalValue D → Type 0
BeginsOpened device j =
    (found : History) → OpensTo (device.seen j.opened) found → (R : Log) × BeginsBy device j found R found

-- whatever a crash leaves from the clock value c on opens to a history of at least so many commits
abbrev pub HasSince : {D : Type 0} → Disk D → ℕ → ℕ → D → Type 0
HasSince device c commits d =
    (m : ℕ) (f : Files) → c ≤ m → m ≤ device.clock d → device.image d m f
    → (kept : History) × OpensTo f kept × (commits ≤ length kept)

-- where the device says what it holds, and the journal stands for a log and its history as above, what
-- a crash leaves from a clock value on goes on to have the commits that it had
abbrev pub KeepsSince : {D : Type 0} → Disk D → JournalValue D → JournalValue D → Type 0
KeepsSince device old new =
    device.tells → (found : History) (R : Log) (H : History) → BeginsBy device old found R H
    → (c commits : ℕ) → c ≤ device.clock old.disk → HasSince device c commits old.disk
    → HasSince device c commits new.disk

-- Where the device says what it holds, nothing has failed, and the journal stands for a log and its
-- history as above, a crash now leaves what has all commits that are flushed.
abbrev pub HasFlushed : {D : Type 0} → Disk D → JournalValue D → Type 0
HasFlushed device j =
    device.tells → down_of j.wal ≡ None → (found : History) (R : Log) (H : History)
    → BeginsBy device j found R H → HasSince device (device.clock j.disk) j.flushed j.disk

-- Of a call that logs nothing: what was so of a log and its history goes on to be so of them.
abbrev pub BeginsOn : {D : Type 0} → Disk D → JournalValue D → JournalValue D → Type 0
BeginsOn device old new =
    device.tells → (found : History) (R : Log) (H : History) → BeginsBy device old found R H
    → BeginsBy device new found R H

-- Of a call that logs this record: it is so of the log with the record, after the owed Abort, where
-- one is owed, and of its history, which goes on from the one before.
abbrev pub BeginsWith : {D : Type 0} → Disk D → JournalValue D → JournalValue D → Record → Type 0
BeginsWith device old new r =
    device.tells → (found : History) (R : Log) (H : History) → BeginsBy device old found R H
    → (H' : History) × Begins H H' × BeginsBy device new found (logged old.owes r R) H'

-- what is there since a clock value stays there in a call that leaves what counted, or all records
module _ {D : Type 0} (device : Disk D) where
  abbrev pub StaysSince : Type 0
  StaysSince =
      (j j' : JournalValue D) (found : History) (R : Log) (H : History) (k : BeginsBy device j found R H)
      → device.tells → down_of j.wal ≡ None
      → LeavesOnly device j.disk j'.disk (CountsEither device j.disk k.stands.counted R)
      → (c commits : ℕ) → c ≤ device.clock j.disk → HasSince device c commits j.disk
      → HasSince device c commits j'.disk

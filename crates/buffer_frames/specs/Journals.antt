-- What a journal stands for: its device, its log, its state.
use Rattle.std.specs.Prelude.{◌≡◌, ◌⊎◌, ℕ, suc, ◌+◌, ◌<◌, ◌≤◌, List, [], ◌∷◌, ◌++◌, length, reverse, Bool, true}
use Rattle.std.specs.Prelude.{false, cond, Option, Some, None, IfSome}
use Rattle.disk_trait.specs.Files.{Files}
use Rattle.disk_trait.specs.Runs.{images_now}
use Rattle.disk_trait.specs.declared.device.Disk.{Ghosts as Disk}
use Rattle.wal.specs.Settled.{Settled}
use Rattle.wal.specs.Waiting.{waiting, end_of, down_of}
use Rattle.wal.specs.declared.log.Wal.{Wal}
use Rattle.page_types.specs.Records.{IsRecord, record_bytes}
use Rattle.page_types.specs.declared.record.Record.{Record}
use Rattle.page_types.specs.declared.record.Kind.{Kind}
use Rattle.page_types.specs.declared.record.Kind.TheVariants as kind
use Rattle.core_state.specs.Log.{Log, In, xid_bound}
use Rattle.core_state.specs.Allowed.{Step}
use Rattle.core_state.specs.Legal.{IsLegal}
use Rattle.core_state.specs.States.{StateValue, state_of, step_of}
use Rattle.core_state.specs.Steady.{IsMaintenance}
use Rattle.core_state.specs.Stores.{AreRecordsOf}
use Rattle.buffer_frames.specs.Counted.{AreNumbered, AreRecords, IsCounted}
use Rattle.buffer_frames.specs.Drawing.{record_of}

-- What contracts see of a journal: the device, the open log, the state of its records, how many
-- commits are flushed, whether the opening's Abort is still owed, the device just after the opening,
-- and, where somebody has the right of maintenance, a number above which no record is maintenance.
pub record JournalValue (D : Type 0) : Type 0 where
  pub disk : D
  pub wal : Wal
  pub state : StateValue
  pub flushed : ℕ
  pub owes : Bool
  pub opened : D
  pub work : Option ℕ

-- no record of the log with a number above this one is maintenance
abbrev pub RestsFrom : ℕ → Log → Type 0
RestsFrom n R = (r : Record) → In r R → n < r.number → IsMaintenance r.kind → ⊥

-- whether a record of this kind is maintenance
abbrev pub is_work : Kind → Bool
is_work kind.Begin = false
is_work (kind.Commit commit) = false
is_work kind.Abort = false
is_work (kind.PlaceHead item serial) = false
is_work (kind.PutOverflow item serial) = false
is_work (kind.MarkDeleted item serial) = false
is_work (kind.PutPending item serial) = false
is_work (kind.AddRow item serial) = false
is_work (kind.LinkPending item serial) = false
is_work _ = true

-- the number above which no record is maintenance, after a record of this kind and number
abbrev pub work_after : Kind → ℕ → Option ℕ → Option ℕ
work_after k number None = None
work_after k number (Some n) = Some (cond (is_work k) number n)

-- a state without what belongs to its run alone
abbrev pub lasting : StateValue → StateValue
lasting s = record s { current = None; freed = [] }

-- how many commits the state of these records has, for a store of the same bounds; of a legal log
-- as many as it has records of kind Commit
abbrev pub commits_in : StateValue → Log → ℕ
commits_in s R = length (state_of s.pages s.xid_limit R).deleted

-- The records of R are those that count and those that wait after them. While no write has failed
-- the log on the device has the counted ones, and the others wait as they are encoded. The state is
-- that of all, but for what belongs to the run alone.
pub record IsJournalOf {D : Type 0} (device : Disk D) (j : JournalValue D) (R : Log) : Type 0 where
  pub counted : Log
  pub waits : Log
  pub all : R ≡ waits ++ counted
  pub numbered : AreNumbered R
  pub state : lasting j.state ≡ lasting (state_of j.state.pages j.state.xid_limit R)
  pub flushed : down_of j.wal ≡ None → j.flushed ≡ commits_in j.state counted
  pub waiting_is : down_of j.wal ≡ None → AreRecordsOf (waiting j.wal) (reverse waits)
  pub settled : device.tells → down_of j.wal ≡ None
      → (batches : List (List ℕ)) × Settled device batches (end_of j.wal) j.disk
      × AreRecords batches counted
  pub work : IfSome j.work (λ n. RestsFrom n R)

-- the Abort that an opening owes: it ends all that ran
abbrev pub owed_abort : ℕ → Record
owed_abort number = record { number = number; xid = 0; kind = kind.Abort; changes = [] }

-- the log with the owed Abort, where one is owed
abbrev pub with_owed : Bool → Log → Log
with_owed owes R = cond owes (owed_abort (1 + length R) ∷ R) R

-- the log after a record
abbrev pub logged : Bool → Record → Log → Log
logged owes r R = r ∷ with_owed owes R

-- the state after the owed Abort, where one is owed
abbrev pub after_owed : Bool → StateValue → StateValue
after_owed owes s = cond owes (step_of (owed_abort (1 + s.records)) s) s

-- the record of a step that is logged next, after the owed Abort, where one is owed
abbrev pub next_record : {D : Type 0} → JournalValue D → Step → Record
next_record j step = record_of (after_owed j.owes j.state) step

-- the encoding of a record after the owed Abort, where one is owed
abbrev pub logged_bytes : {D : Type 0} → JournalValue D → Record → List ℕ
logged_bytes j r = cond j.owes (record_bytes (owed_abort (1 + j.state.records))) [] ++ record_bytes r

-- the step's record has an encoding, and an xid that it draws is below the bound
pub record CanDraw {D : Type 0} (j : JournalValue D) (step : Step) : Type 0 where
  pub encoded : IsRecord (next_record j step)
  pub below : step.kind ≡ kind.Begin → (next_record j step).xid < xid_bound

-- Where the device says what it holds and nothing has failed, the step's record leaves each legal
-- log legal that the journal stands for, if it can be drawn.
abbrev pub MayFollow : {D : Type 0} → Disk D → JournalValue D → Step → Type 0
MayFollow device j step =
    device.tells → down_of j.wal ≡ None → CanDraw j step → (R : Log) → IsJournalOf device j R → IsLegal R
    → IsLegal (logged j.owes (next_record j step) R)

-- the number that the next record gets
abbrev pub next_number : {D : Type 0} → JournalValue D → ℕ
next_number j = 1 + (j.state.records + cond j.owes 1 0)

-- a record of this kind draws an xid, and there is none more
abbrev pub IsSpent : StateValue → Kind → Type 0
IsSpent s k = (k ≡ kind.Begin) × (s.xid_limit ≤ suc (length s.fates))

-- its xids end where those of all stores do
abbrev pub HasXidLimit : StateValue → Type 0
HasXidLimit s = s.xid_limit ≤ xid_bound

-- The files' pages are those of an image before, and their log counts the records of the one log or
-- of the other.
pub record CountsEither {D : Type 0} (device : Disk D) (d : D) (R R' : Log) (c : Files)
    : Type 0 where
  pub before : Files
  pub was : images_now device d before
  pub pages : c.pages ≡ before.pages
  pub log_is : IsCounted c.log R ⊎ IsCounted c.log R'

-- Records that leave no page: a transaction begins, and ends.
use Rattle.std.specs.Prelude.{◌≡◌, ℕ, ◌<◌, [], Option, Some, None, ⊤}
use Rattle.disk_trait.specs.declared.device.Disk.{Ghosts as Disk}
use Rattle.page_types.specs.declared.record.Kind.{Kind}
use Rattle.page_types.specs.declared.record.Kind.TheVariants as kind
use Rattle.page_types.specs.declared.record.Record.{Record}
use Rattle.core_state.specs.Allowed.{Step}
use Rattle.core_state.specs.History.{Commit}
use Rattle.buffer_frames.specs.Journals.{next_record}
use Rattle.buffer_frames.specs.declared.pass.Pass.{Pass}
use Rattle.engine.specs.Causes.{IsDown, AreXidsSpent, IsListedIn, HasNoRoomFor}
use Rattle.engine.specs.Db.{DbValue, state_of, IsUp}
use Rattle.engine.specs.Finding.{Name}
use Rattle.engine.specs.Work.{IsBeginOf}
use Rattle.engine.specs.Inner.Parts.{Runs, HasChanged, Later}
use Rattle.engine.specs.declared.error.DbError.{DbError}
use Rattle.engine.specs.declared.error.DbError.TheVariants.{NoDocument, LogFull, XidsSpent, Down, DiskFault}
use Rattle.engine.specs.declared.error.DbError.TheVariants.{OutOfMemory}

-- a step that leaves no page
abbrev pub plain_step : Kind → ℕ → Step
plain_step k x = record { kind = k; xid = x; after = [] }

-- its record, where it is logged next
abbrev pub plain_record : {D : Type 0} → DbValue D → Kind → ℕ → Record
plain_record s k x = next_record s.frames.journal (plain_step k x)

-- why a record that leaves no page isn't logged
abbrev pub CannotLog : {D : Type 0} → DbValue D → Kind → ℕ → DbError → Type 0
CannotLog s k x (Down fault) = IsDown s fault
CannotLog s k x LogFull = IsUp s × HasNoRoomFor s (plain_record s k x)
CannotLog s k x XidsSpent = (k ≡ kind.Begin) × AreXidsSpent s
CannotLog s k x DiskFault = ⊤
CannotLog s k x OutOfMemory = ⊤
CannotLog s k x e = ⊥

-- the document that is to be deleted, if any, is in the snapshot of n first commits
abbrev pub IsThereOf : {D : Type 0} → DbValue D → ℕ → Option Name → Type 0
IsThereOf s n None = ⊤
IsThereOf s n (Some name) = IsListedIn (state_of s) n name

module _ {D : Type 0} (device : Disk D) where
  -- a pass that has no transaction may begin one; it may commit its own, and abort it
  abbrev pub MayBePlain : DbValue D → Pass → Kind → ℕ → Type 0
  MayBePlain s pass kind.Begin x = (pass.xid ≡ None) × (x ≡ 0)
  MayBePlain s pass (kind.Commit n) x =
      (pass.xid ≡ Some x) × (n ≡ 0) × ((c : Commit) × HasChanged device s pass x c)
  MayBePlain s pass kind.Abort x = (pass.xid ≡ Some x) × (0 < x) × Runs device s pass x
  MayBePlain s pass k x = ⊥

  -- why no transaction begins that is to delete this document, in a snapshot of n commits
  abbrev pub CannotStart : DbValue D → ℕ → Option Name → DbError → Type 0
  CannotStart s n deletes (Down fault) = IsDown s fault
  CannotStart s n deletes NoDocument =
      (name : Name) × (deletes ≡ Some name) × (IsListedIn (state_of s) n name → ⊥)
  CannotStart s n deletes XidsSpent = IsThereOf s n deletes × AreXidsSpent s
  CannotStart s n deletes LogFull =
      IsThereOf s n deletes × (AreXidsSpent s → ⊥)
      × Later device s (λ (t : DbValue D). (x : ℕ) × (r : Record) × IsBeginOf x r × HasNoRoomFor t r)
  CannotStart s n deletes DiskFault = ⊤
  CannotStart s n deletes OutOfMemory = ⊤
  CannotStart s n deletes e = ⊥

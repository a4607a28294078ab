-- The work of a statement between its Begin and its end, and how far a refused one has come.
use Rattle.std.specs.Prelude.{◌≡◌, ◌⊎◌, ℕ, List, [], Option, Some, None, ⊤}
use Rattle.std.specs.List.{All}
use Rattle.disk_trait.specs.declared.device.Disk.{Ghosts as Disk}
use Rattle.ts_base.specs.Vectors.{Vector}
use Rattle.ts_base.specs.Encoding.{vector_bytes}
use Rattle.ts_base.specs.Keys.{keys_of}
use Rattle.page_types.specs.declared.record.Record.{Record}
use Rattle.buffer_frames.specs.declared.pass.Pass.{Pass}
use Rattle.engine.specs.Finding.{Name, Commit, History, IsInSnapshot}
use Rattle.engine.specs.Standing.{StandsFor}
use Rattle.engine.specs.Work.{Work, keys_by, IsWork, IsWorkSoFar, AreMarks, deleted_by}
use Rattle.engine.specs.Going.{Goes, MetNoFault}
use Rattle.engine.specs.Causes.{MayBeDeleted, AreDue}
use Rattle.engine.specs.Db.{DbValue, IsUp}
use Rattle.engine.specs.Inner.Parts.{HasChanged, Later, CannotMark}
use Rattle.engine.specs.Inner.Indexing.{CannotStore}
use Rattle.engine.specs.declared.transaction.Transaction.{Transaction}
use Rattle.engine.specs.declared.error.DbError.{DbError}
use Rattle.engine.specs.declared.error.DbError.TheVariants.{NoDocument, BadPage, OutOfMemory}

-- the document of a name, if there is one, is deleted, and none inserted
abbrev pub removing : Option Name → Work
removing deletes = record { deletes = deletes; inserts = None }

-- its commit
abbrev pub removal : Option Name → Commit
removal deletes = record { deleted = deleted_by deletes; inserted = [] }

module _ {D : Type 0} (device : Disk D) where
  -- the document that is to be deleted, if any, was found to be one that the transaction may delete
  abbrev pub MayMark : DbValue D → Transaction → Option Name → Type 0
  MayMark old t deletes =
      (name : Name) → deletes ≡ Some name
      → Later device old (λ (s : DbValue D). MayBeDeleted s t.snapshot t.xid name)

  -- the transaction has done the work, and this is what it has changed
  pub record HasDone (old new : DbValue D) (pass : Pass) (t : Transaction) (w : Work) (c : Commit) : Type 0 where
    pub records : List Record
    pub are_work : IsWork w t.xid records
    pub due : AreDue device old (keys_by w.inserts) records
    pub goes : Goes device old new records
    pub there : MayMark old t w.deletes
    pub changed : HasChanged device new pass t.xid c

  -- transaction x has stopped in the work: nothing of it is done, or some
  abbrev pub HasStopped : DbValue D → DbValue D → ℕ → Work → Type 0
  HasStopped old new x w =
      Goes device old new [] ⊎ ((done : List Record) × IsWorkSoFar w x done × Goes device old new done)

  -- why the work isn't done: memory ran out for the vector's bytes; the document isn't marked; or it is, and
  -- the other isn't put
  pub data IsNotDone (old : DbValue D) (t : Transaction) (w : Work) : DbError → Type 0 where
    bytes : IsNotDone old t w OutOfMemory
    mark : (name : Name) {e : DbError} → w.deletes ≡ Some name
        → CannotMark device old t.snapshot t.xid name e → IsNotDone old t w e
    put : (v : Vector) (mid : DbValue D) (marks : List Record) {e : DbError} → w.inserts ≡ Some v
        → AreMarks w.deletes t.xid marks → Goes device old mid marks → MetNoFault device old mid
        → MayMark old t w.deletes → CannotStore device mid t.xid (vector_bytes v) (keys_of v) e
        → IsNotDone old t w e

  -- the store is not lawful and up, or what the work deletes is not in the snapshot of n first commits
  abbrev pub IsUnseenBy : DbValue D → ℕ → Work → Type 0
  IsUnseenBy old n w =
      device.tells → (found H : History) → StandsFor device found old H → IsUp old
      → All (IsInSnapshot H n) (deleted_by w.deletes) → ⊥

  -- what the refusal of work says of a lawful store
  abbrev pub TellsOfWork : DbValue D → Transaction → Work → DbError → Type 0
  TellsOfWork old t w NoDocument = IsUnseenBy old t.snapshot w
  TellsOfWork old t w (BadPage p) = IsUnseenBy old t.snapshot w
  TellsOfWork old t w e = ⊤

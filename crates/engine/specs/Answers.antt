-- What the calls of a store answer, and what they leave.
use Rattle.std.specs.Prelude.{◌≡◌, ◌⊎◌, suc, ◌≤◌, List, [], ◌∷◌, ◌++◌, length, reverse, take, Some, None, Result, Ok}
use Rattle.std.specs.Prelude.{Err, Vec, ⊤}
use Rattle.std.specs.declared.alloc.Global.{Global}
use Rattle.disk_trait.specs.declared.device.Disk.{Ghosts as Disk}
use Rattle.ts_base.specs.Vectors.{Vector}
use Rattle.core_state.specs.Log.{Log}
use Rattle.page_types.specs.declared.record.Record.{Record}
use Rattle.std.specs.List.{All}
use Rattle.buffer_frames.specs.Frames.{Stands}
use Rattle.buffer_frames.specs.Journals.{owed_abort}
use Rattle.buffer_frames.specs.Passes.{IsPassOf, IsRightFree}
pub use Rattle.buffer_frames.specs.declared.pass.Pass.{Pass}
use Rattle.engine.specs.Finding.{Name, History, docs, IsFound, IsInSnapshot, AreCommitNames}
use Rattle.engine.specs.Db.{DbValue, disk_of, fault_of, state_of, IsUp, IsFlushed, flushed_of}
use Rattle.engine.specs.Standing.{StandsFor, HasGrown}
use Rattle.engine.specs.Going.{Goes, MetFault}
use Rattle.engine.specs.Work.{Work, keys_by, commit_of, deleted_by, AreCommitted, AreAborted, AreRefused}
use Rattle.engine.specs.Causes.{IsDown, AreXidsSpent, IsListed, IsBadRead, IsMissing, Conflicts, AreThere, LacksPage}
use Rattle.engine.specs.Causes.{LacksLog, LacksLogForBegin, LacksLogForAbort, MeetsBadPage, AreDue}
use Rattle.engine.specs.declared.commit_names.CommitNames.{CommitNames}
use Rattle.engine.specs.declared.error.DbError.{DbError}
use Rattle.engine.specs.declared.error.DbError.TheVariants.{NoDocument, Conflict, StoreFull, LogFull, XidsSpent, Down}
use Rattle.engine.specs.declared.error.DbError.TheVariants.{DiskFault, BadPage, OutOfMemory}

-- ── what every call keeps ──

-- a pass between two calls: it holds no page, no snapshot and no transaction
pub record IsResting {D : Type 0} (s : DbValue D) (pass : Pass) : Type 0 where
  pub is_pass : IsPassOf s.frames pass
  pub idle : (pass.pin ≡ None) × (pass.held ≡ 0) × (pass.xid ≡ None)

-- a session between two calls, when nobody has the right of maintenance
pub record IsSession {D : Type 0} (s : DbValue D) (pass : Pass) : Type 0 where
  pub rests : IsResting s pass
  pub free : IsRightFree s.frames

-- another session stays one
abbrev pub KeepsSessions : {D : Type 0} → DbValue D → DbValue D → Type 0
KeepsSessions old new = (other : Pass) → IsSession old other → IsSession new other

-- The snapshot of a call is of all flushed commits. What its session was shown before is among them,
-- and afterwards it was shown them. Its room stays.
pub record TakesSnapshot {D : Type 0} (old new : DbValue D) (pass pass' : Pass) : Type 0 where
  pub before : pass.shown ≤ flushed_of old
  pub then : (pass.shown ≤ pass'.shown) × (pass'.shown ≤ flushed_of new)
  pub up : IsUp old → flushed_of old ≤ pass'.shown
  pub room : pass'.room ≡ pass.room

-- the log has these records more, after the Abort that an opening owed, where there is any
abbrev pub HasLogged : {D : Type 0} → Disk D → DbValue D → DbValue D → (List Record → Type 0)
    → Type 0
HasLogged device old new Are =
    (R : Log) → Stands device old.frames R
    → (rs : List Record) × (before : Log) × Are rs × Stands device new.frames (reverse rs ++ (before ++ R))
    × ((before ≡ []) ⊎ (before ≡ owed_abort (suc (length R)) ∷ []))

-- ── refusals of a lawful store ──

module _ {D : Type 0} (device : Disk D) (old : DbValue D) where
  -- What a refusal says of the snapshot of a store with the history H: no document is answered where what
  -- the work deletes isn't in it, and no page is bad; where the work could begin, it is.
  abbrev pub TellsOf : History → Work → DbError → Type 0
  TellsOf H w NoDocument = All (λ (name : Name). IsInSnapshot H (flushed_of old) name → ⊥) (deleted_by w.deletes)
  TellsOf H w (BadPage p) = ⊥
  TellsOf H w (Down fault) = ⊤
  TellsOf H w DiskFault = ⊤
  TellsOf H w OutOfMemory = ⊤
  TellsOf H w e = All (IsInSnapshot H (flushed_of old)) (deleted_by w.deletes)

  -- what work on a lawful store is refused by
  abbrev pub IsLawfulRefusal : Work → DbError → Type 0
  IsLawfulRefusal w e =
      device.tells → (found H : History) → StandsFor device found old H → IsUp old → TellsOf H w e

  -- what calls that only read a lawful store are refused by: no page is bad
  abbrev pub MeetsNoBadPage : DbError → Type 0
  MeetsNoBadPage (BadPage p) =
      device.tells → (found H : History) → StandsFor device found old H → IsUp old → ⊥
  MeetsNoBadPage e = ⊤

module _ {D : Type 0} (device : Disk D) (old new : DbValue D) where
  -- no document has changed
  abbrev pub ChangesNothing : Type 0
  ChangesNothing = HasGrown device old new []

  -- ── work that is done ──

  -- what the work deletes was in the snapshot of a lawful store
  abbrev pub WereThere : Work → Type 0
  WereThere w =
      device.tells → (found H : History) → StandsFor device found old H
      → All (IsInSnapshot H (flushed_of old)) (deleted_by w.deletes)

  -- The work was done as this commit, which is flushed as all is, and the pass was shown it. For each
  -- of its records there was room in the log.
  pub record HasCommitted (pass : Pass) (w : Work) (name : Name) : Type 0 where
    pub up : IsUp old
    pub still_up : IsUp new
    pub is_flushed : IsFlushed new
    pub xids : AreXidsSpent old → ⊥
    pub there : AreThere device old w
    pub were_there : WereThere w
    pub goes : (rs : List Record) × AreCommitted w rs × AreDue device old (keys_by w.inserts) rs
        × Goes device old new rs
    pub logged : HasLogged device old new (AreCommitted w)
    pub grown : device.tells → HasGrown device old new (commit_of w name ∷ [])
    pub flushed : device.tells → (found H : History) → StandsFor device found old H
        → flushed_of new ≡ suc (length H)
    pub shown : pass.shown ≡ flushed_of new
    pub writes : device.write_fault_count (disk_of new) ≡ device.write_fault_count (disk_of old)

  -- the device failed as the commit was flushed, which may be there or not
  pub record IsInDoubt (w : Work) (name : Name) : Type 0 where
    pub there : AreThere device old w
    pub goes : (rs : List Record) × AreCommitted w rs × Goes device old new rs
    pub logged : HasLogged device old new (AreCommitted w)
    pub grown : device.tells → HasGrown device old new (commit_of w name ∷ [])
    pub down : fault_of new ≡ Some (device.fault_count (disk_of new))

  -- ── work that is refused ──

  -- The work was not done, and no document has changed. What was begun is aborted, unless the Abort was refused: the
  -- device failed or memory ran out, as is answered then, or the log had no room for it.
  pub record IsRefused (w : Work) (answer : DbError) : Type 0 where
    pub nothing : device.tells → ChangesNothing
    pub logged : HasLogged device old new (AreRefused w)
    pub aborted : ((rs : List Record) × AreAborted w rs × Goes device old new rs)
        ⊎ ((answer ≡ DiskFault) ⊎ ((answer ≡ OutOfMemory) ⊎ LacksLogForAbort device old w new))

  -- The work may begin: what it deletes is in the snapshot, and there is an xid.
  pub record MayStart (w : Work) : Type 0 where
    pub up : IsUp old
    pub listed : All (IsListed old) (deleted_by w.deletes)
    pub xids : AreXidsSpent old → ⊥

  -- Why the work is refused. Where more than one is so, the first is answered in the order: down, no
  -- document, no xid, no room in the log for the Begin, a conflict, and then no page or no room in the
  -- log at the record that meets it.
  abbrev pub Refuses : Work → DbError → Type 0
  Refuses w (Down fault) = IsDown old fault × (new ≡ old)
  Refuses w NoDocument = IsUp old × ((name : Name) × (w.deletes ≡ Some name) × IsMissing device old w name)
  Refuses w XidsSpent = IsUp old × All (IsListed old) (deleted_by w.deletes) × AreXidsSpent old
  Refuses w (Conflict y) = MayStart w × ((name : Name) × (w.deletes ≡ Some name) × Conflicts device old w name y)
  Refuses w StoreFull = MayStart w × AreThere device old w × LacksPage device old w
  Refuses w LogFull =
      MayStart w × (LacksLogForBegin device old w ⊎ (AreThere device old w × LacksLog device old w))
  Refuses w DiskFault = MetFault device old new
  Refuses w (BadPage p) = IsUp old × MeetsBadPage device old w p
  Refuses w OutOfMemory = IsUp old

  -- it was refused so; the device's fault may leave its commit in doubt
  abbrev pub HasRefused : Work → DbError → Type 0
  HasRefused w DiskFault = Refuses w DiskFault × (IsRefused w DiskFault ⊎ ((name : Name) × IsInDoubt w name))
  HasRefused w e = Refuses w e × IsRefused w e

  -- what work that inserts a document is answered, and what it leaves
  abbrev pub HasStored : Pass → Work → Result Name DbError → Type 0
  HasStored pass w (Ok name) = HasCommitted pass w name
  HasStored pass w (Err e) = HasRefused w e

  -- what work that inserts none is answered, and what it leaves; its commit has no name
  abbrev pub HasDeleted : {T : Type 0} → Pass → Work → Result T DbError → Type 0
  HasDeleted pass w (Ok done) = (name : Name) × HasCommitted pass w name
  HasDeleted pass w (Err e) = HasRefused w e

  -- ── calls that only read ──

  -- They log nothing: the log stays, and so does its state.
  pub record OnlyReads : Type 0 where
    pub nothing : device.tells → ChangesNothing
    pub log : (R : Log) → Stands device old.frames R → Stands device new.frames R
    pub state : state_of new ≡ state_of old

  -- why such a call is refused; only a search meets a bad page
  abbrev pub CannotRead : DbError → Type 0
  CannotRead (Down fault) = IsDown old fault × (new ≡ old)
  CannotRead DiskFault = MetFault device old new
  CannotRead (BadPage p) = IsUp old × ((s : DbValue D) × Goes device old s [] × IsBadRead s p)
  CannotRead OutOfMemory = IsUp old
  CannotRead e = ⊥

  -- a search for the vectors of this property finds exactly the documents of the snapshot
  abbrev pub HasFound : (Vector → Type 0) → Result (Vec Name Global) DbError → Type 0
  HasFound P (Ok found_names) =
      IsUp old × (device.tells → (found H : History) → StandsFor device found old H
      → IsFound P (docs (take (flushed_of old) H)) found_names.items)
  HasFound P (Err e) = CannotRead e

  -- the commits are those of the snapshot
  abbrev pub HasListed : Result (Vec CommitNames Global) DbError → Type 0
  HasListed (Ok commits) =
      IsUp old × (device.tells → (found H : History) → StandsFor device found old H
      → AreCommitNames commits.items (take (flushed_of old) H))
  HasListed (Err e) = CannotRead e

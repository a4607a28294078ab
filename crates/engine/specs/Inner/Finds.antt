-- What the calls that only read find.
use Rattle.std.specs.Prelude.{◌≡◌, ◌≢◌, ◌≤◌, ℕ, List, [], take, None, IfSome, ⊤}
use Rattle.disk_trait.specs.declared.device.Disk.{Ghosts as Disk}
use Rattle.ts_base.specs.Vectors.{Vector}
use Rattle.page_types.specs.declared.page.Page.{Page}
use Rattle.buffer_frames.specs.Passes.{IsPassOf}
use Rattle.buffer_frames.specs.declared.pass.Pass.{Pass}
use Rattle.engine.specs.Finding.{Name, History, docs, IsFound, AreCommitNames}
use Rattle.engine.specs.Standing.{StandsFor}
use Rattle.engine.specs.Places.{Lies}
use Rattle.engine.specs.Causes.{IsBadRead}
use Rattle.engine.specs.Going.{Goes}
use Rattle.engine.specs.Db.{DbValue, IsUp}
use Rattle.engine.specs.Inner.Parts.{Later, KeepsWork}
use Rattle.engine.specs.declared.commit_names.CommitNames.{CommitNames}
use Rattle.engine.specs.declared.error.DbError.{DbError}
use Rattle.engine.specs.declared.error.DbError.TheVariants.{DiskFault, BadPage, OutOfMemory}

-- a snapshot of n commits is in use, and no page is held
pub record IsReading {D : Type 0} (s : DbValue D) (pass : Pass) (n : ℕ) : Type 0 where
  pub is_pass : IsPassOf s.frames pass
  pub taken : pass.pin ≢ None
  pub snapshot : IfSome pass.pin (λ p. p.commits ≡ n)
  pub held : pass.held ≡ 0

-- ── calls that only read ──

-- Nothing is logged, and the pass holds no page then. What lay in memory lies there still.
pub record ReadsOn {D : Type 0} (device : Disk D) (old : DbValue D) (pass : Pass) (new : DbValue D) (pass' : Pass)
    : Type 0 where
  pub is_pass : IsPassOf new.frames pass'
  pub held : pass'.held ≡ 0
  pub lying : (p : ℕ) (c : Page) → Lies old p c → Lies new p c
  pub goes : Goes device old new []
  pub keeps : KeepsWork pass pass'

-- Nothing is logged, and the pass holds no page then; it may have given up its snapshot.
pub record EndsReading {D : Type 0} (device : Disk D) (old : DbValue D) (pass : Pass) (new : DbValue D)
    (pass' : Pass) : Type 0 where
  pub is_pass : IsPassOf new.frames pass'
  pub held : pass'.held ≡ 0
  pub goes : Goes device old new []
  pub room : pass'.room ≡ pass.room
  pub xid : pass'.xid ≡ pass.xid
  pub shown : pass.shown ≤ pass'.shown

module _ {D : Type 0} (device : Disk D) (s : DbValue D) where
  -- these are the names of the documents of the snapshot of n commits whose vectors have the property, by
  -- serial
  abbrev pub FindsAll : ℕ → (Vector → Type 0) → List Name → Type 0
  FindsAll n P found_names =
      device.tells → (found H : History) → StandsFor device found s H
      → IsFound P (docs (take n H)) found_names

  -- these are its commits
  abbrev pub ListsAll : ℕ → List CommitNames → Type 0
  ListsAll n commits =
      device.tells → (found H : History) → StandsFor device found s H → AreCommitNames commits (take n H)

  -- why nothing is found; the store is up where it meets a bad page
  abbrev pub CannotFind : DbError → Type 0
  CannotFind DiskFault = ⊤
  CannotFind (BadPage p) = Later device s (λ (t : DbValue D). IsUp t × IsBadRead t p)
  CannotFind OutOfMemory = ⊤
  CannotFind e = ⊥

-- why no commit is listed
abbrev pub CannotList : DbError → Type 0
CannotList OutOfMemory = ⊤
CannotList e = ⊥

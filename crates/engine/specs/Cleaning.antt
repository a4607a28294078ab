-- What a cleanup of the index answers, and what it leaves; and what an insert leaves where one comes by
-- itself after it.
use Rattle.std.specs.Prelude.{◌≡◌, ◌⊎◌, ℕ, ◌<◌, ◌≤◌, List, [], Result, Ok, Err, ⊤}
use Rattle.std.specs.List.{AllByRecursion}
use Rattle.disk_trait.specs.declared.device.Disk.{Ghosts as Disk}
use Rattle.wal.specs.Waiting.{limit_of}
use Rattle.page_types.specs.Pages.{IsPage}
use Rattle.page_types.specs.Records.{kind_number}
use Rattle.page_types.specs.declared.page.Page.{Page}
use Rattle.page_types.specs.declared.page.Row.{Row}
use Rattle.page_types.specs.declared.page.Body.TheVariants as body
use Rattle.page_types.specs.declared.record.Record.{Record}
use Rattle.ts_base.specs.Keys.{Key}
use Rattle.core_state.specs.Log.{Log, Pages, Shows, cut}
use Rattle.core_state.specs.Index.{Pending, Main}
use Rattle.snap_pins.specs.Taken.{IsPinned}
use Rattle.snap_pins.specs.declared.Pin.{Pin}
use Rattle.buffer_frames.specs.Frames.{FramesValue, Stands, Behind}
use Rattle.buffer_frames.specs.Passes.{IsPassOf, GoesOnBy}
use Rattle.buffer_frames.specs.declared.pass.Pass.{Pass}
use Rattle.gin_place.specs.declared.error.PlaceError.{PlaceError}
use Rattle.gin_place.specs.declared.error.PlaceError.TheVariants as places
use Rattle.gin_cleanup.specs.Cleaning.{IsStillIn}
use Rattle.gin_cleanup.specs.Going.{IsCleaningKind, IsCause}
use Rattle.engine.specs.Finding.{Name}
use Rattle.engine.specs.Db.{DbValue, state_of, IsUp}
use Rattle.engine.specs.Places.{Lies}
use Rattle.engine.specs.Work.{Work}
use Rattle.engine.specs.Going.{Goes, MetFault, FaultIsTold}
use Rattle.engine.specs.Standing.{GoesOn}
use Rattle.engine.specs.Causes.{IsDown, IsNoPageAt}
use Rattle.engine.specs.Answers.{HasLogged, ChangesNothing, HasStored}
use Rattle.engine.specs.declared.error.DbError.{DbError}
use Rattle.engine.specs.declared.error.DbError.TheVariants.{StoreFull, LogFull, Down, DiskFault, BadPage, OutOfMemory}

-- the records of a cleanup: Shift, and those by which items come into the entry tree and posting trees
abbrev pub AreCleaning : List Record → Type 0
AreCleaning rs = AllByRecursion (λ (r : Record). IsCleaningKind (kind_number r.kind)) rs

-- Work on the index that began here is at these frames: the limits of the log and of the pages are those that there
-- were. A snapshot that is in use was so before, or has all commits that were flushed and is of a log no shorter than
-- it was.
pub record IsAt {D : Type 0} (f g : FramesValue D) : Type 0 where
  pub limit : limit_of g.journal.wal ≡ limit_of f.journal.wal
  pub pages : g.journal.state.pages ≡ f.journal.state.pages
  pub flushed : f.journal.flushed ≤ g.journal.flushed
  pub longer : f.journal.state.records ≤ g.journal.state.records
  pub pins : (place : ℕ) (p : Pin) → IsPinned g.pins place p
      → IsPinned f.pins place p ⊎ ((f.journal.flushed ≤ p.commits) × (f.journal.state.records ≤ p.length))

-- A cleanup that began here has logged such records, and its pass came to where a step of it is refused so. The log
-- that is left is that one.
pub record Comes {D : Type 0} (device : Disk D) (f new : FramesValue D) (e : PlaceError) : Type 0 where
  pub frames : FramesValue D
  pub pass : Pass
  pub at : IsAt f frames
  pub is_pass : IsPassOf frames pass
  pub kinds : List ℕ
  pub cleaning : AllByRecursion IsCleaningKind kinds
  pub logs : (R : Log) → Stands device f R
      → (R' : Log) × GoesOnBy f.journal.owes R R' kinds × Stands device frames R' × Stands device new R'
  pub left : FramesValue D
  pub cause : IsCause device left e frames pass

module _ {D : Type 0} (device : Disk D) (old new : DbValue D) where
  -- Whatever is answered: no document has changed, and only records of a cleanup were logged.
  pub record HasMoved : Type 0 where
    pub nothing : device.tells → ChangesNothing device old new
    pub logged : HasLogged device old new AreCleaning

  -- No row that was linked when it began is still linked, and each pair of a key and an item that was pending
  -- then is in the main part.
  pub record AreMoved : Type 0 where
    pub gone : Behind device new.frames (λ (R : Log). (w : Row) → IsStillIn (state_of old).records R w → ⊥)
    pub placed : Behind device new.frames (λ (R : Log). (P Q : Pages) → Shows (cut (state_of old).records R) P
        → Shows R Q → (k : Key) (i : ℕ) → Pending P k i → Main Q k i)

  -- Why it is refused: the store was down, and then nothing is done; or somewhere on its way there was no page,
  -- no room in the log for the next record, or a bad page.
  abbrev pub CannotClean : DbError → Type 0
  CannotClean (Down fault) = IsDown old fault × (new ≡ old)
  CannotClean DiskFault = MetFault device old new
  CannotClean StoreFull = IsUp old × Comes device old.frames new.frames places.StoreFull
  CannotClean LogFull = IsUp old × Comes device old.frames new.frames places.LogFull
  CannotClean (BadPage p) = IsUp old × Comes device old.frames new.frames (places.BadPage p)
  CannotClean OutOfMemory = IsUp old
  CannotClean e = ⊥

  -- what a cleanup is answered
  abbrev pub HasCleaned : {T : Type 0} → Result T DbError → Type 0
  HasCleaned (Ok done) = IsUp old × AreMoved
  HasCleaned (Err e) = CannotClean e

-- ── by itself ──

-- the metapage, as it lies in memory, names more pages of the pending list than the store's setting
pub record IsListLong {D : Type 0} (s : DbValue D) : Type 0 where
  pub meta : Page
  pub is_page : IsPage meta
  pub lies : Lies s 0 meta
  pub first : ℕ
  pub last : ℕ
  pub count : ℕ
  pub names : meta.body ≡ body.Meta first last count
  pub more : s.pending < count

-- why the metapage isn't held: its bytes are none of a page, the device failed, or memory ran out
abbrev pub CannotLook : {D : Type 0} → DbValue D → DbError → Type 0
CannotLook s (BadPage p) = (p ≡ 0) × IsNoPageAt s 0
CannotLook s DiskFault = ⊤
CannotLook s OutOfMemory = ⊤
CannotLook s e = ⊥

module _ {D : Type 0} (device : Disk D) (mid new : DbValue D) where
  -- A cleanup comes by itself exactly where the list is long: then it was answered so. Where it is not, or the
  -- metapage was not held, nothing is logged.
  pub data ByItself : Result ⊤ DbError → Type 0 where
    cleaned : {answer : Result ⊤ DbError} → IsListLong mid → HasCleaned device mid new answer → ByItself answer
    short : {answer : Result ⊤ DbError} → (IsListLong mid → ⊥) → Goes device mid new [] → ByItself answer
    unseen : {e : DbError} → CannotLook mid e → Goes device mid new [] → ByItself (Err e)

  -- What follows on a commit: a cleanup by itself. Its answer is told nobody.
  pub record Tidies : Type 0 where
    pub moves : HasMoved device mid new
    pub goes_on : GoesOn device mid new
    pub answer : Result ⊤ DbError
    pub told : FaultIsTold device mid new answer
    pub by_itself : ByItself answer

module _ {D : Type 0} (device : Disk D) where
  -- after a refusal nothing more is done
  abbrev pub ThenTidies : DbValue D → DbValue D → Result Name DbError → Type 0
  ThenTidies mid new (Ok name) = Tidies device mid new
  ThenTidies mid new (Err e) = new ≡ mid

  -- Work that inserts a document, and what comes after it. The answer is that of the work, which left the store
  -- so.
  pub record StoresThenTidies (old new : DbValue D) (pass' : Pass) (w : Work) (answer : Result Name DbError) : Type 0
    where
      pub mid : DbValue D
      pub pass : Pass
      pub stored : HasStored device old mid pass w answer
      pub told : FaultIsTold device old mid answer
      pub goes_on : GoesOn device old mid
      pub shown : pass.shown ≤ pass'.shown
      pub then : ThenTidies mid new answer

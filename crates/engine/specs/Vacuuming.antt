-- What a vacuum of the store answers, and what it leaves.
use Rattle.std.specs.Prelude.{◌≡◌, ◌⊎◌, ℕ, ◌≤◌, List, ◌++◌, map, Result, Ok, Err}
use Rattle.std.specs.List.{AllByRecursion}
use Rattle.disk_trait.specs.declared.device.Disk.{Ghosts as Disk}
use Rattle.page_types.specs.Records.{kind_number}
use Rattle.page_types.specs.declared.page.Head.{Head}
use Rattle.page_types.specs.declared.page.Row.{Row}
use Rattle.page_types.specs.declared.record.Record.{Record}
use Rattle.ts_base.specs.Keys.{Key}
use Rattle.core_state.specs.Log.{Log, Pages, Shows, commits, cut}
use Rattle.core_state.specs.Documents.{Doc, Has, IsDead}
use Rattle.core_state.specs.Index.{Pending, Main, HasRow, NoPair}
use Rattle.core_state.specs.Legal.{Keeps}
use Rattle.snap_pins.specs.Taken.{IsPinned}
use Rattle.snap_pins.specs.declared.Pin.{Pin}
use Rattle.buffer_frames.specs.Frames.{FramesValue, Stands, Behind, pin_of}
use Rattle.buffer_frames.specs.Passes.{IsPassOf, GoesOnBy, HasAdded}
use Rattle.buffer_frames.specs.declared.pass.Pass.{Pass}
use Rattle.gin_place.specs.declared.error.PlaceError.{PlaceError}
use Rattle.gin_place.specs.declared.error.PlaceError.TheVariants as places
use Rattle.gin_cleanup.specs.Cleaning.{IsStillIn}
use Rattle.gin_cleanup.specs.Going as cleanups
use Rattle.gin_cleanup.specs.Going.{IsCleaningKind}
use Rattle.gin_vacuum.specs.Causes.{CannotRead}
pub use Rattle.gin_vacuum.specs.Finding.{IsFloor}
use Rattle.gin_vacuum.specs.Freeing.{IsFreeKind, CannotFree}
use Rattle.gin_vacuum.specs.Stepping as sweeps
use Rattle.gin_vacuum.specs.Unlinked.{CannotList}
use Rattle.gin_vacuum.specs.Stepping.{IsSweepKind, IsBadIn}
use Rattle.engine.specs.Db.{DbValue, state_of, IsUp}
use Rattle.engine.specs.Going.{MetFault}
use Rattle.engine.specs.Causes.{IsDown}
use Rattle.engine.specs.Answers.{HasLogged, ChangesNothing}
use Rattle.engine.specs.Cleaning.{IsAt, Comes}
use Rattle.engine.specs.declared.error.DbError.{DbError}
use Rattle.engine.specs.declared.error.DbError.TheVariants.{StoreFull, LogFull, Down, DiskFault, BadPage, OutOfMemory}

-- the kinds of records by which dead items leave the trees, and then those by which the chains and slots of their
-- documents go
pub record IsTakingOut (kinds : List ℕ) : Type 0 where
  pub sweeping : List ℕ
  pub freeing : List ℕ
  pub order : kinds ≡ sweeping ++ freeing
  pub are_sweeping : AllByRecursion IsSweepKind sweeping
  pub are_freeing : AllByRecursion IsFreeKind freeing

-- the kinds of the records of a vacuum: those of a cleanup, and then these
pub record IsVacuum (kinds : List ℕ) : Type 0 where
  pub cleaning : List ℕ
  pub taking : List ℕ
  pub order : kinds ≡ cleaning ++ taking
  pub are_cleaning : AllByRecursion IsCleaningKind cleaning
  pub are_taking : IsTakingOut taking

-- the kinds of the records of work on the index: Shift and all after it
abbrev pub IsIndexKind : ℕ → Type 0
IsIndexKind k = (12 ≤ k) × (k ≤ 21)

abbrev pub AreVacuum : List Record → Type 0
AreVacuum rs = IsVacuum (map (λ (r : Record). kind_number r.kind) rs)

-- the document that had this item in the pages P is not dead by any commit of the log
abbrev pub IsLive : Log → Pages → ℕ → Type 0
IsLive R P i = (d : Doc) (h : Head) → Has P d h → d.item ≡ i → IsDead R (commits R) d → ⊥

-- In the pages Q the document has no slot, and so no chain. If it had its slot in the pages P, then no pair has its
-- item.
pub record IsGone (P Q : Pages) (d : Doc) : Type 0 where
  pub slot : (h : Head) → Has Q d h → ⊥
  pub pairs : (h : Head) → Has P d h → NoPair Q d.item

module _ {D : Type 0} (device : Disk D) where
  -- why a step of a vacuum is refused that leaves the frames so: one that seeks dead documents or their rows, of the
  -- cleanup, of the trees, or of chains and slots
  pub data IsWhy (left : FramesValue D) (e : PlaceError) (f : FramesValue D) (pass : Pass) : Type 0 where
    finding : CannotRead device left e f pass → IsWhy left e f pass
    listing : CannotList device left e f pass → IsWhy left e f pass
    cleaning : cleanups.IsCause device left e f pass → IsWhy left e f pass
    sweeping : sweeps.IsCause device (IsBadIn device) left e f pass → IsWhy left e f pass
    freeing : CannotFree device left e f pass → IsWhy left e f pass

  -- A vacuum that began here has logged records of work on the index, and its pass came to where a step of it is
  -- refused so. The log that is left is that one.
  pub record Stops (f new : FramesValue D) (e : PlaceError) : Type 0 where
    pub frames : FramesValue D
    pub pass : Pass
    pub at : IsAt f frames
    pub is_pass : IsPassOf frames pass
    pub kinds : List ℕ
    pub index : AllByRecursion IsIndexKind kinds
    pub logs : (R : Log) → Stands device f R
        → (R' : Log) × GoesOnBy f.journal.owes R R' kinds × Stands device frames R' × Stands device new R'
    pub left : FramesValue D
    pub cause : IsWhy left e frames pass

  -- What is so, in the log at hand, of each document that was dead in the log on entry by the floor that there was. It
  -- is said of the pages of both logs.
  abbrev pub OfDead : FramesValue D → FramesValue D → (Pages → Pages → Doc → Type 0) → Type 0
  OfDead f new X = Behind device new (λ (R : Log). (P Q : Pages) → Shows (cut f.journal.state.records R) P → Shows R Q
      → (floor : ℕ) → IsFloor f floor → (d : Doc) → IsDead (cut f.journal.state.records R) floor d → X P Q d)

  -- The cleanup found no page, and then the vacuum went on with what had no linked row: each document that was dead
  -- when it began is gone or has a linked row, unless a step of these found no room in the log, or a bad page.
  pub record StopsFull (f new : FramesValue D) : Type 0 where
    pub mid : FramesValue D
    pub at : IsAt f mid
    pub full : Comes device f mid places.StoreFull
    pub kinds : List ℕ
    pub taking : IsTakingOut kinds
    pub added : HasAdded device mid new kinds
    pub rest : Stops mid new places.LogFull ⊎ (((p : ℕ) × Stops mid new (places.BadPage p))
        ⊎ OfDead f new (λ P Q d. IsGone P Q d ⊎ HasRow Q d.item))

module _ {D : Type 0} (device : Disk D) (old new : DbValue D) where
  -- Whatever is answered: no document has changed, and only records of a vacuum were logged. The log is one that keeps
  -- each snapshot that was in use: none of the records takes a document that it sees, nor a pair of one, and none
  -- takes a page again that was deleted since.
  pub record HasWorked : Type 0 where
    pub nothing : device.tells → ChangesNothing device old new
    pub logged : HasLogged device old new AreVacuum
    pub pinned : Behind device new.frames
        (λ (R : Log). (place : ℕ) (p : Pin) → IsPinned old.frames.pins place p → Keeps R (pin_of p))

  -- No row that was linked when it began is still linked; each pair of a key and the item of a live document that was
  -- pending then is in the main part; and each document that was dead then by the floor is gone.
  pub record AreOut : Type 0 where
    pub gone : Behind device new.frames (λ (R : Log). (w : Row) → IsStillIn (state_of old).records R w → ⊥)
    pub placed : Behind device new.frames (λ (R : Log). (P Q : Pages) → Shows (cut (state_of old).records R) P
        → Shows R Q → (k : Key) (i : ℕ) → Pending P k i → IsLive R P i → Main Q k i)
    pub out : OfDead device old.frames new.frames IsGone

  -- Why it is refused: the store was down, and then nothing is done; the cleanup found no page; or somewhere on its
  -- way there was no room in the log for the next record, or a bad page.
  abbrev pub CannotVacuum : DbError → Type 0
  CannotVacuum (Down fault) = IsDown old fault × (new ≡ old)
  CannotVacuum DiskFault = MetFault device old new
  CannotVacuum StoreFull = IsUp old × StopsFull device old.frames new.frames
  CannotVacuum LogFull = IsUp old × Stops device old.frames new.frames places.LogFull
  CannotVacuum (BadPage p) = IsUp old × Stops device old.frames new.frames (places.BadPage p)
  CannotVacuum OutOfMemory = IsUp old
  CannotVacuum e = ⊥

  -- what a vacuum is answered
  abbrev pub HasVacuumed : {T : Type 0} → Result T DbError → Type 0
  HasVacuumed (Ok done) = IsUp old × AreOut
  HasVacuumed (Err e) = CannotVacuum e

-- A vacuum at work: what is taken out, and why it ends.
use Rattle.std.specs.Prelude.{◌≡◌, ◌⊎◌, ℕ, ◌≤◌, List, length, Bool, true, false, ⊤, Result}
use Rattle.std.specs.List.{AllByRecursion}
use Rattle.disk_trait.specs.declared.device.Disk.{Ghosts as Disk}
use Rattle.page_types.specs.declared.page.Head.{Head}
use Rattle.ts_base.specs.Keys.{Key}
use Rattle.core_state.specs.Log.{Log, Pages, In, Shows, cut}
use Rattle.core_state.specs.Documents.{Doc, Has, placed}
use Rattle.core_state.specs.Index.{Pending, Main, HasRow}
use Rattle.buffer_frames.specs.Frames.{FramesValue, Behind}
use Rattle.buffer_frames.specs.declared.pass.Pass.{Pass}
use Rattle.gin_place.specs.declared.error.PlaceError.{PlaceError}
use Rattle.gin_place.specs.declared.error.PlaceError.TheVariants.{StoreFull, LogFull, DiskFault, Down, BadPage}
use Rattle.gin_place.specs.declared.error.PlaceError.TheVariants.{OutOfMemory}
use Rattle.gin_cleanup.specs.Going.{IsCleaningKind}
use Rattle.engine.specs.Cleaning.{HasCleaned}
use Rattle.engine.specs.Db.{DbValue}
use Rattle.engine.specs.Vacuuming.{IsVacuum, IsLive, IsGone, OfDead, Stops, StopsFull, HasVacuumed}
use Rattle.engine.specs.Inner.Cleaned.{EndsBy}
use Rattle.engine.specs.declared.error.DbError.{DbError}

-- the pass has seen all of the log
abbrev pub SeesAll : {D : Type 0} → Disk D → FramesValue D → Pass → Type 0
SeesAll device f pass = Behind device f (λ (R : Log). length R ≤ pass.seen)

-- no document of the item that was placed when the log had n records has its slot
abbrev pub IsTakenOut : ℕ → Log → Pages → ℕ → Type 0
IsTakenOut n R Q i = (d : Doc) (x : ℕ) → d.item ≡ i → In d (placed (cut n R) x) → (h : Head) → Has Q d h → ⊥

module _ {D : Type 0} (device : Disk D) where
  -- so it is of each of them
  abbrev pub AreTakenOut : ℕ → List ℕ → FramesValue D → Type 0
  AreTakenOut n items g = Behind device g (λ (R : Log). (Q : Pages) → Shows R Q → (i : ℕ) → In i items
      → IsTakenOut n R Q i)

  -- or a linked row has it
  abbrev pub LeaveLinked : ℕ → List ℕ → FramesValue D → Type 0
  LeaveLinked n items g = Behind device g (λ (R : Log). (Q : Pages) → Shows R Q → (i : ℕ) → In i items
      → IsTakenOut n R Q i ⊎ HasRow Q i)

  -- each pair of a live document's item that was pending when the log had n records is in the main part
  abbrev pub ArePlacedSince : ℕ → FramesValue D → Type 0
  ArePlacedSince n g = Behind device g (λ (R : Log). (P Q : Pages) → Shows (cut n R) P → Shows R Q → (k : Key) (i : ℕ)
      → Pending P k i → IsLive R P i → Main Q k i)

  -- why taking out ends early that began when the log was up
  abbrev pub EndsTaking : FramesValue D → FramesValue D → PlaceError → Type 0
  EndsTaking f g StoreFull = ⊥
  EndsTaking f g LogFull = Stops device f g LogFull
  EndsTaking f g (BadPage p) = Stops device f g (BadPage p)
  EndsTaking f g (Down n) = ⊥
  EndsTaking f g DiskFault = Stops device f g DiskFault
  EndsTaking f g OutOfMemory = Stops device f g OutOfMemory

  -- why a vacuum does
  abbrev pub EndsVacuum : FramesValue D → FramesValue D → PlaceError → Type 0
  EndsVacuum f g StoreFull = StopsFull device f g
  EndsVacuum f g LogFull = Stops device f g LogFull
  EndsVacuum f g (BadPage p) = Stops device f g (BadPage p)
  EndsVacuum f g (Down n) = ⊥
  EndsVacuum f g DiskFault = ⊤
  EndsVacuum f g OutOfMemory = ⊤

  -- what a vacuum has done
  pub record IsVacuumed (f g : FramesValue D) : Type 0 where
    pub placed : ArePlacedSince f.journal.state.records g
    pub out : OfDead device f g IsGone

-- ── a cleanup, or a vacuum ──

-- the kinds of its records
abbrev pub AreKindsOf : Bool → List ℕ → Type 0
AreKindsOf false kinds = AllByRecursion IsCleaningKind kinds
AreKindsOf true kinds = IsVacuum kinds

module _ {D : Type 0} (device : Disk D) where
  -- why it ends early
  abbrev pub Ends : Bool → FramesValue D → FramesValue D → PlaceError → Type 0
  Ends false f g e = EndsBy device f g e
  Ends true f g e = EndsVacuum device f g e

  -- what it is answered
  abbrev pub HasMaintained : {T : Type 0} → Bool → DbValue D → DbValue D → Result T DbError → Type 0
  HasMaintained false old new answer = HasCleaned device old new answer
  HasMaintained true old new answer = HasVacuumed device old new answer

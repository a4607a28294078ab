-- What the steps of a cleanup log, and why they are refused.
use Rattle.std.specs.Prelude.{◌≡◌, ◌⊎◌, ℕ, ◌<◌, ◌≤◌, List, [], length, Bool, true, Result}
use Rattle.std.specs.Prelude.{IfOk, IfErr, OnOk, OnErr}
use Rattle.std.specs.List.{AllByRecursion}
use Rattle.disk_trait.specs.declared.device.Disk.{Ghosts as Disk}
use Rattle.wal.specs.Waiting.{limit_of, length_with}
use Rattle.page_types.specs.declared.page.Page.{Page}
use Rattle.page_types.specs.declared.page.Row.{Row}
use Rattle.page_types.specs.declared.page.Body.TheVariants as body
use Rattle.page_types.specs.declared.record.Kind.TheVariants as kind
use Rattle.ts_base.specs.Keys.{Key}
use Rattle.core_state.specs.Log.{Log, In}
use Rattle.core_state.specs.Allowed.{Step}
use Rattle.core_state.specs.History.{History, IsHistory}
use Rattle.buffer_frames.specs.Drawing.{HasEncoding}
use Rattle.buffer_frames.specs.Journals.{logged_bytes, next_record}
use Rattle.buffer_frames.specs.Frames.{FramesValue, Behind}
use Rattle.buffer_frames.specs.Passes.{IsPassOf, GoesOnBy, HasAdded, PassRises}
use Rattle.buffer_frames.specs.declared.pass.Pass.{Pass}
use Rattle.gin_place.specs.Running.{StoreGoesOn}
use Rattle.gin_place.specs.Faults.{MetNoFault, FaultBy}
use Rattle.gin_place.specs.Going.{IsPlacingKind}
use Rattle.gin_place.specs.Placing.{IsPlaced}
use Rattle.gin_place.specs.Causes.{Finds, CannotUse, IsBadIn, NoBadPage, IsWhy}
use Rattle.gin_place.specs.declared.error.PlaceError.{PlaceError}
use Rattle.gin_place.specs.declared.error.PlaceError.TheVariants.{LogFull}
use Rattle.gin_cleanup.specs.Cleaning.{IsCleaning, SaysWhether}
use Rattle.gin_cleanup.specs.Measure.{ComesNearer}
use Rattle.gin_cleanup.specs.declared.cleanup.Cleanup.{Cleanup}

-- the kinds of the records of a cleanup: Shift, and those by which items come into the trees
abbrev pub IsCleaningKind : ℕ → Type 0
IsCleaningKind k = (k ≡ 12) ⊎ IsPlacingKind k

-- The pass has its pin, its transaction, its right and its room, has seen no less, and the records that
-- were logged are of these kinds, which leave the history and the pairs of the main part.
pub record CleansOn {D : Type 0} (device : Disk D) (f : FramesValue D) (pass : Pass) (f' : FramesValue D)
    (pass' : Pass) (kinds : List ℕ) : Type 0 where
  pub is_pass : IsPassOf f' pass'
  pub added : HasAdded device f f' kinds
  pub cleaning : AllByRecursion IsCleaningKind kinds
  pub history : (R R' : Log) (H : History) → GoesOnBy f.journal.owes R R' kinds → IsHistory R H → IsHistory R' H
  pub placed : (k : Key) (i : ℕ) → IsPlaced device f pass k i → IsPlaced device f' pass' k i
  pub rises : PassRises pass pass'
  pub pin : pass'.pin ≡ pass.pin
  pub room : pass'.room ≡ pass.room
  pub xid : pass'.xid ≡ pass.xid
  pub work : pass'.work ≡ pass.work
  pub pins : f'.pins ≡ f.pins
  pub goes : StoreGoesOn device f f' kinds

-- the metapage; and a page of rows of documents, none of which has the item 0
abbrev pub IsMetaPage : Page → Type 0
IsMetaPage c = (first : ℕ) × (last : ℕ) × (pages : ℕ) × (c.body ≡ body.Meta first last pages)

abbrev pub IsRowPage : Page → Type 0
IsRowPage c = (rows : List Row) × (c.body ≡ body.Pending rows) × ((w : Row) → In w rows → 0 < w.item)

-- A bad page: the metapage, or a page of the list, none of which is so in a legal log; or one of placing.
pub data IsBadList {D : Type 0} (device : Disk D) (f : FramesValue D) (pass : Pass) (p : ℕ) : Type 0 where
  meta : p ≡ 0 → CannotUse f IsMetaPage p → Behind device f (λ (R : Log). ⊥) → IsBadList device f pass p
  rows : CannotUse f IsRowPage p → Behind device f (λ (R : Log). ⊥) → IsBadList device f pass p
  place : (key : List ℕ) → IsBadIn device key f pass p → IsBadList device f pass p

-- the log would pass its limit with the record of a Shift that has one
pub record HasNoRoomToShift {D : Type 0} (f : FramesValue D) : Type 0 where
  pub step : Step
  pub shift : step.kind ≡ kind.Shift
  pub encoded : HasEncoding step
  pub pages : length step.after ≤ 2
  pub over : limit_of f.journal.wal < length_with f.journal.wal (logged_bytes f.journal (next_record f.journal step))

module _ {D : Type 0} (device : Disk D) where
  -- why a step is refused that leaves the frames so
  abbrev pub IsCause : FramesValue D → PlaceError → FramesValue D → Pass → Type 0
  IsCause left LogFull f pass = IsWhy device (IsBadList device) left LogFull f pass ⊎ HasNoRoomToShift f
  IsCause left e f pass = IsWhy device (IsBadList device) left e f pass

-- The cleanup has gone on, and false is answered exactly where no row that was linked when it began is still
-- linked; true brings the end nearer. At most one record was logged, none where it is refused, and no page is
-- held; the cause of a refusal is said, and a lawful store meets no bad page. A fault is met exactly where
-- DiskFault is answered.
pub record HasCleaned {D : Type 0} (device : Disk D) (f : FramesValue D) (pass : Pass) (f' : FramesValue D)
    (pass' : Pass) (from : ℕ) (old new : Cleanup) (result : Result Bool PlaceError) : Type 0 where
  pub cleaning : IsCleaning device f' pass' from new
  pub ends : IfOk result (SaysWhether device f' pass' from)
  pub none_held : pass'.held ≡ 0
  pub works : (kinds : List ℕ) × (length kinds ≤ 1) × CleansOn device f pass f' pass' kinds
  pub refused : OnErr result (CleansOn device f pass f' pass' [])
  pub lower : IfOk result (λ more. more ≡ true → ComesNearer f f' old new)
  pub cause : IfErr result (λ e. Finds device f pass (IsCause device f' e))
  pub lawful : IfErr result (NoBadPage device f)
  pub fine : OnOk result (MetNoFault device f f')
  pub fault : IfErr result (FaultBy device f f')

-- How far the slots of dead documents have become free, as a pass has seen it, and why it goes no further.
use Rattle.std.specs.Prelude.{◌≡◌, ◌⊎◌, ℕ, ◌-◌, ◌<◌, ◌≤◌, List, [], length, take, drop, Bool, true, false, Result, ⊤}
use Rattle.std.specs.Prelude.{◌↔◌, Some, None, IfOk, IfErr, OnOk, OnErr}
use Rattle.std.specs.List.{AllByRecursion}
use Rattle.disk_trait.specs.declared.device.Disk.{Ghosts as Disk}
use Rattle.wal.specs.Waiting.{down_of}
use Rattle.page_types.specs.declared.page.Page.{Page}
use Rattle.page_types.specs.declared.page.Row.{Row}
use Rattle.page_types.specs.declared.page.Body.TheVariants as body
use Rattle.core_state.specs.Log.{Log, Pages, In, Shows, cut}
use Rattle.core_state.specs.Documents.{head_of}
use Rattle.core_vacuum.specs.Leaving.{IsOut}
use Rattle.buffer_frames.specs.Frames.{FramesValue, Behind}
use Rattle.buffer_frames.specs.Passes.{Seen}
use Rattle.buffer_frames.specs.declared.pass.Pass.{Pass}
use Rattle.doc_heap.specs.declared.leaving.Chain.{Chain}
use Rattle.doc_heap.specs.declared.leaving.Chain.TheVariants as chain
use Rattle.gin_place.specs.Causes.{Finds, CannotUse, HasFault, NoBadPage}
use Rattle.gin_place.specs.Faults.{MetNoFault, FaultBy}
use Rattle.gin_place.specs.declared.error.PlaceError.{PlaceError}
use Rattle.gin_place.specs.declared.error.PlaceError.TheVariants.{StoreFull, LogFull, DiskFault, Down, BadPage}
use Rattle.gin_place.specs.declared.error.PlaceError.TheVariants.{OutOfMemory}
use Rattle.gin_vacuum.specs.Causes.{IsHeap}
use Rattle.gin_vacuum.specs.Going.{VacuumsOn, HasNoRoom}
use Rattle.gin_vacuum.specs.declared.freeing.Freeing.{Freeing}

-- the item's slot was free in a log of `began` records or more that this one goes on from
pub record WasFree (began : ℕ) (S : Log) (i : ℕ) : Type 0 where
  pub length_then : ℕ
  pub since : began ≤ length_then
  pub within : length_then ≤ length S
  pub pages : Pages
  pub shown : Shows (cut length_then S) pages
  pub free : head_of pages i ≡ None

-- The call that began when its pass had seen `began` records. The items from the next on are out of the index, with
-- their documents, which are dead; the slots of those before it have been free since.
pub record IsFreeing {D : Type 0} (device : Disk D) (f : FramesValue D) (pass : Pass) (began : ℕ) (items : List ℕ)
    (c : Freeing) : Type 0 where
  pub began_at : began ≤ pass.seen
  pub within : c.from ≤ length items
  pub out : Seen device f pass (λ S P. (i : ℕ) → In i (drop c.from items) → IsOut S P pass.floor i)
  pub freed : Seen device f pass (λ S P. (i : ℕ) → In i (take c.from items) → WasFree began S i)

-- the kinds of the records by which chains and slots go: DropPage, FreeSlots
abbrev pub IsFreeKind : ℕ → Type 0
IsFreeKind k = (20 ≤ k) × (k ≤ 21)

-- a page of such a chain
abbrev pub IsPageOf : Chain → Page → Type 0
IsPageOf chain.Overflow c = (bytes : List ℕ) × (c.body ≡ body.Overflow bytes)
IsPageOf chain.Private c = (rows : List Row) × (c.body ≡ body.Pending rows)

-- A bad page: no heap page lies where a document has its slot, or no page of a chain where the head says so; neither is
-- so in a legal log.
pub data IsBadFreed {D : Type 0} (device : Disk D) (f : FramesValue D) (p : ℕ) : Type 0 where
  of_heap : CannotUse f IsHeap p → Behind device f (λ (R : Log). ⊥) → IsBadFreed device f p
  of_chain : (c : Chain) → CannotUse f (IsPageOf c) p → Behind device f (λ (R : Log). ⊥) → IsBadFreed device f p

module _ {D : Type 0} (device : Disk D) where
  -- why a step is refused that leaves the frames so
  abbrev pub CannotFree : FramesValue D → PlaceError → FramesValue D → Pass → Type 0
  CannotFree left StoreFull f pass = ⊥
  CannotFree left LogFull f pass = HasNoRoom f
  CannotFree left DiskFault f pass = HasFault device f left
  CannotFree left (Down fault) f pass = down_of f.journal.wal ≡ Some fault
  CannotFree left (BadPage p) f pass = IsBadFreed device f p
  CannotFree left OutOfMemory f pass = ⊤

-- there is a record more; or there is none, and fewer items are left
abbrev pub ComesNearer : {D : Type 0} → FramesValue D → FramesValue D → List ℕ → Freeing → Freeing → Type 0
ComesNearer f f' items old new =
    (f.journal.state.records < f'.journal.state.records)
    ⊎ ((f'.journal.state.records ≡ f.journal.state.records) × (length items - new.from < length items - old.from))

-- The call has gone on, and false is answered exactly where no item is left; true brings the end nearer. At most one
-- record was logged, of the kinds 20 and 21, none where it is refused, and no page is held; the cause of a refusal is
-- said, and a lawful store meets no bad page. A fault is met exactly where DiskFault is answered.
pub record HasFreed {D : Type 0} (device : Disk D) (f : FramesValue D) (pass : Pass) (f' : FramesValue D)
    (pass' : Pass) (began : ℕ) (items : List ℕ) (old new : Freeing) (result : Result Bool PlaceError) : Type 0 where
  pub freeing : IsFreeing device f' pass' began items new
  pub ends : IfOk result (λ more. (more ≡ false) ↔ (length items ≤ new.from))
  pub none_held : pass'.held ≡ 0
  pub works : (kinds : List ℕ) × (length kinds ≤ 1) × AllByRecursion IsFreeKind kinds
      × VacuumsOn device f pass f' pass' kinds
  pub refused : OnErr result (VacuumsOn device f pass f' pass' [])
  pub lower : IfOk result (λ more. more ≡ true → ComesNearer f f' items old new)
  pub cause : IfErr result (λ e. Finds device f pass (CannotFree device f' e))
  pub lawful : IfErr result (NoBadPage device f)
  pub fine : OnOk result (MetNoFault device f f')
  pub fault : IfErr result (FaultBy device f f')

-- Which dead items no linked row has, as a pass has seen it, and why that is not read.
use Rattle.std.specs.Prelude.{◌≡◌, ◌⊎◌, ℕ, List, Some, ⊤}
use Rattle.disk_trait.specs.declared.device.Disk.{Ghosts as Disk}
use Rattle.wal.specs.Waiting.{down_of}
use Rattle.page_types.specs.declared.page.Page.{Page}
use Rattle.page_types.specs.declared.page.Row.{Row}
use Rattle.page_types.specs.declared.page.Body.TheVariants as body
use Rattle.core_state.specs.Log.{Log, Pages, In, Shows, cut}
use Rattle.core_state.specs.Index.{HasRow}
use Rattle.buffer_frames.specs.Frames.{FramesValue, Behind}
use Rattle.buffer_frames.specs.Passes.{Seen}
use Rattle.buffer_frames.specs.declared.pass.Pass.{Pass}
use Rattle.gin_place.specs.Causes.{CannotUse, HasFault}
use Rattle.gin_place.specs.declared.error.PlaceError.{PlaceError}
use Rattle.gin_place.specs.declared.error.PlaceError.TheVariants.{StoreFull, LogFull, DiskFault, Down, BadPage}
use Rattle.gin_place.specs.declared.error.PlaceError.TheVariants.{OutOfMemory}
use Rattle.gin_vacuum.specs.Vacuum.{AreDead}

-- a linked row had the item in the log of so many records
pub record HadRow (S : Log) (from i : ℕ) : Type 0 where
  pub pages : Pages
  pub shown : Shows (cut from S) pages
  pub row : HasRow pages i

-- The items may leave. They are those of the dead ones of which no row was linked when the pass had seen `from`
-- records: each other had a row then, and has it still.
pub record AreUnlinked {D : Type 0} (device : Disk D) (f : FramesValue D) (pass : Pass) (from : ℕ)
    (dead items : List ℕ) : Type 0 where
  pub leave : AreDead device f pass items
  pub those : (i : ℕ) → In i items → In i dead
  pub others : Seen device f pass (λ S P. (i : ℕ) → In i dead → In i items ⊎ (HadRow S from i × HasRow P i))

-- the metapage, and a page of rows
abbrev pub IsMetaPage : Page → Type 0
IsMetaPage c = (first : ℕ) × (last : ℕ) × (pages : ℕ) × (c.body ≡ body.Meta first last pages)

abbrev pub IsRowPage : Page → Type 0
IsRowPage c = (rows : List Row) × (c.body ≡ body.Pending rows)

-- A bad page: the metapage, or a page of the list; neither is so in a legal log.
pub data IsBadList {D : Type 0} (device : Disk D) (f : FramesValue D) (p : ℕ) : Type 0 where
  meta : p ≡ 0 → CannotUse f IsMetaPage p → Behind device f (λ (R : Log). ⊥) → IsBadList device f p
  rows : CannotUse f IsRowPage p → Behind device f (λ (R : Log). ⊥) → IsBadList device f p

module _ {D : Type 0} (device : Disk D) where
  -- why the list is not read, by a call that leaves the frames so
  abbrev pub CannotList : FramesValue D → PlaceError → FramesValue D → Pass → Type 0
  CannotList left StoreFull f pass = ⊥
  CannotList left LogFull f pass = ⊥
  CannotList left DiskFault f pass = HasFault device f left
  CannotList left (Down fault) f pass = down_of f.journal.wal ≡ Some fault
  CannotList left (BadPage p) f pass = IsBadList device f p
  CannotList left OutOfMemory f pass = ⊤

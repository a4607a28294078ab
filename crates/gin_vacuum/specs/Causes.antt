-- Why a step that reads a page is refused.
use Rattle.std.specs.Prelude.{◌≡◌, ℕ, List, Option, Some, ⊤}
use Rattle.disk_trait.specs.declared.device.Disk.{Ghosts as Disk}
use Rattle.wal.specs.Waiting.{down_of}
use Rattle.page_types.specs.declared.page.Page.{Page}
use Rattle.page_types.specs.declared.page.Head.{Head}
use Rattle.page_types.specs.declared.page.Body.TheVariants as body
use Rattle.core_state.specs.Log.{Log}
use Rattle.buffer_frames.specs.Frames.{FramesValue, Behind}
use Rattle.buffer_frames.specs.declared.pass.Pass.{Pass}
use Rattle.gin_place.specs.Causes.{CannotUse, HasFault}
use Rattle.gin_place.specs.declared.error.PlaceError.{PlaceError}
use Rattle.gin_place.specs.declared.error.PlaceError.TheVariants.{StoreFull, LogFull, DiskFault, Down, BadPage}
use Rattle.gin_place.specs.declared.error.PlaceError.TheVariants.{OutOfMemory}

-- a heap page
abbrev pub IsHeap : Page → Type 0
IsHeap c = (slots : List (Option Head)) × (c.body ≡ body.Heap slots)

module _ {D : Type 0} (device : Disk D) where
  -- no heap page lies where a head was placed, which is so in no legal log
  abbrev pub IsBadHeap : FramesValue D → ℕ → Type 0
  IsBadHeap f p = CannotUse f IsHeap p × Behind device f (λ (R : Log). ⊥)

  -- why a heap page is not read, by a call that leaves the frames so
  abbrev pub CannotRead : FramesValue D → PlaceError → FramesValue D → Pass → Type 0
  CannotRead left StoreFull f pass = ⊥
  CannotRead left LogFull f pass = ⊥
  CannotRead left DiskFault f pass = HasFault device f left
  CannotRead left (Down fault) f pass = down_of f.journal.wal ≡ Some fault
  CannotRead left (BadPage p) f pass = IsBadHeap f p
  CannotRead left OutOfMemory f pass = ⊤

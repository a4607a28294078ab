-- Why a step of a scan is refused.
use Rattle.std.specs.Prelude.{◌≡◌, ◌≢◌, ◌⊎◌, ℕ, ◌≤◌, ⊤, Bool, List, Option, Some}
use Rattle.std.specs.List.{slice_get}
use Rattle.disk_trait.specs.declared.device.Disk.{Ghosts as Disk}
use Rattle.wal.specs.Waiting.{down_of}
use Rattle.page_types.specs.Numbers.{page_limit}
use Rattle.page_types.specs.Pages.{IsPage}
use Rattle.page_types.specs.declared.page.Page.{Page}
use Rattle.page_types.specs.declared.page.Head.{Head}
use Rattle.page_types.specs.declared.page.Row.{Row}
use Rattle.page_types.specs.declared.page.Body.TheVariants as body
use Rattle.page_types.specs.declared.page.Gone.TheVariants as gone
use Rattle.core_state.specs.Log.{Log}
use Rattle.core_state.specs.Documents.{page_of}
use Rattle.buffer_frames.specs.Homes.{IsNoPage}
use Rattle.buffer_frames.specs.Frames.{FramesValue, Lies, Behind}
use Rattle.buffer_frames.specs.declared.frame_error.FrameError.{FrameError}
use Rattle.buffer_frames.specs.declared.frame_error.FrameError.TheVariants.{DiskFault, Down, BadPage, OutOfMemory}
use Rattle.core_moments.specs.Walk.{Sought, first_key, toward}
use Rattle.core_moments.specs.OpenLaws.{IsLeaf, IsPostingPage}
use Rattle.gin_scan.specs.Scanning.{sought_in}
use Rattle.gin_scan.specs.declared.scan_core.ScanCore.{ScanCore}
use Rattle.gin_scan.specs.declared.stage.Stage.{Stage}
use Rattle.gin_scan.specs.declared.stage.Stage.TheVariants as stage

-- what a page has to have that is read next
abbrev pub HasMeta : Page → Type 0
HasMeta c = (first last pages : ℕ) × (c.body ≡ body.Meta first last pages)

abbrev pub HasRows : Page → Type 0
HasRows c = (rows : List Row) × ((c.body ≡ body.Pending rows) ⊎ (c.body ≡ body.Deleted (gone.Pending rows)))

abbrev pub HasSlots : Page → Type 0
HasSlots c = (slots : List (Option Head)) × (c.body ≡ body.Heap slots)

abbrev pub HasPart : Page → Type 0
HasPart c = (bytes : List ℕ) × (c.body ≡ body.Overflow bytes)

-- a page that leads on towards the leaf of a key, or a leaf
abbrev pub HasWay : Sought → Page → Type 0
HasWay w c = (toward (first_key w) c ≢ 0) ⊎ IsLeaf c

-- the number is no page's, or the page that lies there has not what it has to have
pub data CannotUse {D : Type 0} (f : FramesValue D) (Is : Page → Type 0) (p : ℕ) : Type 0 where
  past : page_limit ≤ p → CannotUse f Is p
  bytes : IsNoPage f.homes p → CannotUse f Is p
  other : (c : Page) → IsPage c → Lies f p c → (Is c → ⊥) → CannotUse f Is p

-- why a page that has to have this is not read
abbrev pub CannotRead : {D : Type 0} → FramesValue D → (Page → Type 0) → ℕ → FrameError → Type 0
CannotRead f Is p DiskFault = ⊤
CannotRead f Is p (Down fault) = down_of f.journal.wal ≡ Some fault
CannotRead f Is p (BadPage bad) = (bad ≡ p) × CannotUse f Is p
CannotRead f Is p OutOfMemory = ⊤

-- Why a page isn't read to which a chain leads. At 0 the chain has ended: no page is read, and only memory can
-- run out.
abbrev pub CannotFollow : {D : Type 0} → FramesValue D → (Page → Type 0) → ℕ → FrameError → Type 0
CannotFollow f Is p e = CannotRead f Is p e × (p ≡ 0 → e ≡ OutOfMemory)

-- why a scan doesn't begin
abbrev pub CannotBegin : {D : Type 0} → FramesValue D → FrameError → Type 0
CannotBegin f DiskFault = ⊥
CannotBegin f (Down fault) = down_of f.journal.wal ≡ Some fault
CannotBegin f (BadPage bad) = ⊥
CannotBegin f OutOfMemory = ⊤

-- why the step is refused whose stage this is
abbrev pub CannotStep : {D : Type 0} → FramesValue D → ScanCore → Stage → FrameError → Type 0
CannotStep f s stage.Meta e = CannotRead f HasMeta 0 e
CannotStep f s (stage.Pending page left) e = CannotFollow f HasRows page e
CannotStep f s (stage.Down key page left) e =
    (e ≡ OutOfMemory)
    ⊎ ((w : Sought) × (slice_get (sought_in s) key ≡ Some w) × CannotRead f (HasWay w) page e)
CannotStep f s (stage.Leaf key page left) e = (e ≡ OutOfMemory) ⊎ ((page ≢ 0) × CannotRead f IsLeaf page e)
CannotStep f s (stage.Posting key at page left next read) e =
    (e ≡ OutOfMemory) ⊎ ((page ≢ 0) × CannotRead f IsPostingPage page e)
CannotStep f s (stage.Heads at) e =
    (e ≡ OutOfMemory) ⊎ ((item : ℕ) × (sure : Bool) × (slice_get s.kept.items at ≡ Some (item, sure))
    × CannotRead f HasSlots (page_of item) e)
CannotStep f s (stage.Parts at page left) e = CannotFollow f HasPart page e
CannotStep f s stage.Done e = ⊥

-- a bad page is met in no legal log of the frames
abbrev pub IsLawfulRefusal : {D : Type 0} → Disk D → FramesValue D → FrameError → Type 0
IsLawfulRefusal device f (BadPage p) = Behind device f (λ (R : Log). ⊥)
IsLawfulRefusal device f e = ⊤

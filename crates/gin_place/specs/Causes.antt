-- Why items are not put under a key.
use Rattle.std.specs.Prelude.{◌≡◌, ◌≢◌, ◌⊎◌, ℕ, ◌<◌, ◌≤◌, List, [], length, ⊤, Some, None}
use Rattle.disk_trait.specs.Device.{Rose}
use Rattle.disk_trait.specs.declared.device.Disk.{Ghosts as Disk}
use Rattle.wal.specs.Waiting.{limit_of, length_with, down_of}
use Rattle.page_types.specs.Encoding.{body_bytes, count_of}
use Rattle.page_types.specs.Numbers.{page_limit}
use Rattle.page_types.specs.Pages.{IsPage}
use Rattle.page_types.specs.Records.{kind_number}
use Rattle.page_types.specs.declared.page.Page.{Page}
use Rattle.core_state.specs.Log.{Log}
use Rattle.core_state.specs.Allowed.{Step}
use Rattle.core_state.specs.PageChoice.{IsLeast, AreBelow}
use Rattle.core_state.specs.TreeRules.{half_body}
use Rattle.posting_code.specs.declared.dividing.Keep.{Keep}
use Rattle.page_space.specs.Taking.{IsTaken, HasNoPage}
use Rattle.snap_pins.specs.Taken as pins
use Rattle.snap_pins.specs.declared.Pin.{Pin}
use Rattle.entry_tree.specs.Reading as entry_rooms
use Rattle.entry_tree.specs.Splitting.{AreParts}
use Rattle.posting_tree.specs.Reading as post_rooms
use Rattle.buffer_frames.specs.Drawing.{HasEncoding}
use Rattle.buffer_frames.specs.Homes.{IsNoPage}
use Rattle.buffer_frames.specs.Journals.{logged_bytes, next_record}
use Rattle.buffer_frames.specs.Frames.{FramesValue, Lies, Behind}
use Rattle.buffer_frames.specs.declared.pass.Pass.{Pass}
use Rattle.gin_place.specs.Going.{IsPlacingKind, WorksOn}
use Rattle.gin_place.specs.Trees.{root_of, IsTreeBody, IsPast}
use Rattle.gin_place.specs.Adopting.{CanTake, CanTakeItem}
use Rattle.gin_place.specs.Faults.{MetNoFault}
use Rattle.gin_place.specs.declared.error.PlaceError.{PlaceError}
use Rattle.gin_place.specs.declared.error.PlaceError.TheVariants.{StoreFull, LogFull, DiskFault, Down, BadPage}
use Rattle.gin_place.specs.declared.error.PlaceError.TheVariants.{OutOfMemory}
use Rattle.gin_place.specs.declared.placing.Placing.{Placing}
use Rattle.gin_place.specs.declared.placing.Stage.TheVariants as stage
use Rattle.gin_place.specs.declared.sought.Sought.{Sought}
use Rattle.gin_place.specs.declared.sought.Sought.TheVariants as sought

-- calls that logged records of such kinds, or none, came to frames and a pass of which this holds
abbrev pub Meets : {D : Type 0} → Disk D → FramesValue D → Pass → (FramesValue D → Pass → Type 0) → Type 0
Meets device f pass X =
    (g : FramesValue _) × (q : Pass) × (kinds : List ℕ) × WorksOn device f pass g q kinds × X g q

-- calls that logged nothing and met no fault came to frames and a pass of which this holds
abbrev pub Finds : {D : Type 0} → Disk D → FramesValue D → Pass → (FramesValue D → Pass → Type 0) → Type 0
Finds device f pass X =
    (g : FramesValue _) × (q : Pass) × WorksOn device f pass g q [] × MetNoFault device f g × X g q

-- No page has this number, or the bytes that lie under it are none; or the page that lies there is not so.
pub data CannotUse {D : Type 0} (f : FramesValue D) (Is : Page → Type 0) (p : ℕ) : Type 0 where
  past : page_limit ≤ p → CannotUse f Is p
  bytes : IsNoPage f.homes p → CannotUse f Is p
  other : (c : Page) → IsPage c → Lies f p c → (Is c → ⊥) → CannotUse f Is p

-- a page of the tree where something is sought that has a place for it
pub record HasPlace (key : List ℕ) (s : Sought) (c : Page) : Type 0 where
  pub on_tree : IsTreeBody s c.body
  pub not_past : (q : ℕ) → IsPast key s c q → ⊥

-- a root that may grow, and a page that may be split
abbrev pub CanGrow : Sought → Page → Type 0
CanGrow s c = IsTreeBody s c.body × (half_body < length (body_bytes c.body)) × (c.right ≡ 0)

abbrev pub CanDivide : Sought → Page → Type 0
CanDivide s c = IsTreeBody s c.body × (half_body < length (body_bytes c.body)) × (2 ≤ count_of c.body)

-- the log would pass its limit with the record of a step that has one, by which items come into the tree
pub record HasNoRoom {D : Type 0} (f : FramesValue D) : Type 0 where
  pub step : Step
  pub placing : IsPlacingKind (kind_number step.kind)
  pub encoded : HasEncoding step
  pub pages : length step.after ≤ 3
  pub over : limit_of f.journal.wal < length_with f.journal.wal (logged_bytes f.journal (next_record f.journal step))

-- a page that is taken as a new one can't be used
pub record IsBadNew {D : Type 0} (f : FramesValue D) (pass : Pass) (p : ℕ) : Type 0 where
  pub taken : IsTaken f.journal.state pass.since p
  pub bad : (p ≡ 0) ⊎ CannotUse f (λ (c : Page). ⊤) p

-- the page that lies there, in two parts, the first of which is this one
abbrev pub HasFirstPart : {D : Type 0} → FramesValue D → ℕ → Page → Type 0
HasFirstPart f page left =
    (c : Page) × IsPage c × Lies f page c × (new : ℕ) × (keep : Keep) × (right : Page) × AreParts c new keep left right

-- The parent does not take the new page: it has no room, or what the first part ends with does not divide what is
-- below the child.
abbrev pub CannotAdopt : {D : Type 0} → Sought → FramesValue D → ℕ → ℕ → Type 0
CannotAdopt sought.Key f page p =
    (left : Page) × HasFirstPart f page left × CannotUse f (CanTake page (entry_rooms.upper_in left.body)) p
CannotAdopt (sought.Item root item) f page p =
    (left : Page) × HasFirstPart f page left × CannotUse f (CanTakeItem page (post_rooms.upper_in left.body)) p

-- A bad page: no root that may grow, where the root is to grow; another page that is to be split, or its
-- parent, which does not take the new page; or the new page.
pub data IsBadRoom {D : Type 0} (s : Sought) (parent page : ℕ) (f : FramesValue D) (pass : Pass) (p : ℕ) : Type 0 where
  root : page ≡ root_of s → p ≡ page → CannotUse f (CanGrow s) p → IsBadRoom s parent page f pass p
  split : page ≢ root_of s → p ≡ page → CannotUse f (CanDivide s) p → IsBadRoom s parent page f pass p
  above : page ≢ root_of s → p ≡ parent → CannotUse f (λ (c : Page). ⊤) p → IsBadRoom s parent page f pass p
  adopts : page ≢ root_of s → p ≡ parent → CannotAdopt s f page p → IsBadRoom s parent page f pass p
  new : IsBadNew f pass p → IsBadRoom s parent page f pass p

-- each page that the store may have has a number
abbrev pub HasNumbers : {D : Type 0} → FramesValue D → Type 0
HasNumbers f = f.journal.state.pages ≤ page_limit

-- the way has read as many pages as pages may have numbers
abbrev pub IsSpent : {D : Type 0} → Placing → FramesValue D → Type 0
IsSpent s f = (s.left ≡ Some 0) ⊎ ((s.left ≡ None) × IsLeast (AreBelow f.journal.state) 0)

-- A bad page of a step: the one that it reads has no place for what is sought, the way has read as many pages as
-- it may, or it is one of those by which room is made, or the new page of a tree; which are so in no legal log.
pub data IsBad {D : Type 0} (device : Disk D) (key : List ℕ) (s : Placing) (f : FramesValue D) (pass : Pass) (p : ℕ)
    : Type 0 where
  read : (t : Sought) (parent : ℕ) → s.stage ≡ stage.At t parent p → CannotUse f (HasPlace key t) p
      → Behind device f (λ (R : Log). ⊥)
      → IsBad device key s f pass p
  far : (t : Sought) (parent : ℕ) → s.stage ≡ stage.At t parent p → IsSpent s f → Behind device f (λ (R : Log). ⊥)
      → IsBad device key s f pass p
  room : (t : Sought) (parent page : ℕ) → s.stage ≡ stage.At t parent page → IsBadRoom t parent page f pass p
      → (HasNumbers f → Behind device f (λ (R : Log). ⊥))
      → IsBad device key s f pass p

-- a bad page is met only where the log at hand is not lawful
abbrev pub NoBadPage : {D : Type 0} → Disk D → FramesValue D → PlaceError → Type 0
NoBadPage device f (BadPage p) = HasNumbers f → Behind device f (λ (R : Log). ⊥)
NoBadPage device f e = ⊤

-- one of some step
abbrev pub IsBadIn : {D : Type 0} → Disk D → List ℕ → FramesValue D → Pass → ℕ → Type 0
IsBadIn device key f pass p = (s : Placing) × IsBad device key s f pass p

-- the pass takes deleted pages again as far as the snapshots in use allow it
abbrev pub HasLatestSince : {D : Type 0} → FramesValue D → Pass → Type 0
HasLatestSince f pass = pins.IsLeast f.pins (λ (p : Pin). p.length) f.journal.state.records pass.since

-- a page that is new was left when the call took one
abbrev pub HadPage : {D : Type 0} → Disk D → FramesValue D → Pass → Type 0
HadPage device f pass = Meets device f pass (λ g q. HasNoPage g.journal.state q.since → ⊥)

module _ {D : Type 0} (device : Disk D) where
  -- the device's count of faults has risen
  abbrev pub HasFault : FramesValue D → FramesValue D → Type 0
  HasFault f left = Rose (device.fault_count f.journal.disk) (device.fault_count left.journal.disk)

  -- Why a call is refused that leaves the frames so, where `Bad` is said of bad pages. The store is full where no
  -- new page is left, and only there.
  abbrev pub IsWhy : (FramesValue D → Pass → ℕ → Type 0) → FramesValue D → PlaceError → FramesValue D → Pass → Type 0
  IsWhy Bad left StoreFull f pass = HasLatestSince f pass × HasNoPage f.journal.state pass.since
  IsWhy Bad left LogFull f pass = HasNoRoom f
  IsWhy Bad left DiskFault f pass = HasFault f left
  IsWhy Bad left (Down fault) f pass = down_of f.journal.wal ≡ Some fault
  IsWhy Bad left (BadPage p) f pass = Bad f pass p
  IsWhy Bad left OutOfMemory f pass = ⊤

  -- why a page is not held
  abbrev pub CannotHold : ℕ → FramesValue D → PlaceError → FramesValue D → Pass → Type 0
  CannotHold page left StoreFull f pass = ⊥
  CannotHold page left LogFull f pass = ⊥
  CannotHold page left DiskFault f pass = HasFault f left
  CannotHold page left (Down fault) f pass = down_of f.journal.wal ≡ Some fault
  CannotHold page left (BadPage p) f pass = (p ≡ page) × CannotUse f (λ (c : Page). ⊤) p
  CannotHold page left OutOfMemory f pass = ⊤

  -- why a step is not logged
  abbrev pub CannotLog : FramesValue D → PlaceError → FramesValue D → Pass → Type 0
  CannotLog left StoreFull f pass = ⊥
  CannotLog left LogFull f pass = HasNoRoom f
  CannotLog left DiskFault f pass = HasFault f left
  CannotLog left (Down fault) f pass = down_of f.journal.wal ≡ Some fault
  CannotLog left (BadPage p) f pass = ⊥
  CannotLog left OutOfMemory f pass = ⊤

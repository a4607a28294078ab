-- Pages in memory by their numbers, and which bytes they show.
use Rattle.std.specs.Prelude.{◌≡◌, ◌≢◌, ◌<◌, ◌≤◌, ℕ, Bool, true, false, List}
use Rattle.std.specs.Prelude.{length, get_or, Option, Some, None, Result, Ok, Err, ⊤}
use Rattle.page_types.specs.Numbers.{zeros, page_size}
use Rattle.page_types.specs.Pages.{IsPage}
use Rattle.page_types.specs.Encoding.{page_bytes}
use Rattle.page_types.specs.Views.{free_page}
use Rattle.page_types.specs.declared.page.Page.{Page}
use Rattle.core_state.specs.Log.{In}
use Rattle.core_state.specs.Allowed.{Sheet, sheet_pages}
use Rattle.buffer_frames.specs.declared.frame_error.FrameError.{FrameError}
use Rattle.buffer_frames.specs.declared.frame_error.FrameError.TheVariants.{BadPage}
use Rattle.buffer_frames.specs.First.{first_sheets}
use Rattle.buffer_frames.specs.Maps.{lookup}
use Rattle.buffer_frames.specs.declared.page_map.PageMap.{PageMap}
use Rattle.buffer_frames.specs.declared.home.Home.{Home}
use Rattle.buffer_frames.specs.declared.home.Home.TheVariants.{Free, Bytes, Content, Away}

-- where a page is; beyond the last it is free
abbrev pub home_at : List Home → ℕ → Home
home_at homes p = get_or homes p Free

-- a page that lies as these bytes, or is free
abbrev pub home_of : Option (List ℕ) → Home
home_of None = Free
home_of (Some b) = Bytes b

-- these are the bytes of a page that is here
abbrev pub ShowsBytes : Home → List ℕ → Type 0
ShowsBytes Free bytes = bytes ≡ zeros page_size
ShowsBytes (Bytes b) bytes = bytes ≡ b
ShowsBytes (Content c) bytes = bytes ≡ page_bytes c
ShowsBytes Away bytes = ⊤

-- a page that lies here as one has an encoding
abbrev pub HasPage : Home → Type 0
HasPage (Content c) = IsPage c
HasPage _ = ⊤

-- each does
abbrev pub HavePages : List Home → Type 0
HavePages homes = (p : ℕ) → HasPage (home_at homes p)

-- the page is away
abbrev pub IsAway : List Home → ℕ → Type 0
IsAway homes p = home_at homes p ≡ Away

-- bytes that are no page
abbrev pub IsNoPageHere : Home → Type 0
IsNoPageHere (Bytes b) = (c : Page) → IsPage c → b ≡ page_bytes c → ⊥
IsNoPageHere _ = ⊥

abbrev pub IsNoPage : List Home → ℕ → Type 0
IsNoPage homes p = IsNoPageHere (home_at homes p)

-- BadPage of this page exactly where P holds, unless memory runs out
abbrev pub BadPageWhere : {T : Type 0} → Type 0 → ℕ → Result T FrameError → Type 0
BadPageWhere P page (Ok x) = P → ⊥
BadPageWhere P page (Err (BadPage q)) = (q ≡ page) × P
BadPageWhere P page (Err e) = ⊤

-- what lies here is this page
abbrev pub LiesAs : Home → Page → Type 0
LiesAs Free c = c ≡ free_page
LiesAs (Bytes b) c = IsPage c × (b ≡ page_bytes c)
LiesAs (Content d) c = c ≡ d
LiesAs Away c = ⊥

-- the homes are the same, but for free ones after
pub record AreAlike (old new : List Home) : Type 0 where
  pub each : (p : ℕ) → home_at new p ≡ home_at old p
  pub longer : length old ≤ length new

-- the page was taken from where it lay
pub record HasTaken (old new : List Home) (page : ℕ) (c : Page) : Type 0 where
  pub is_page : IsPage c
  pub lies : LiesAs (home_at old page) c
  pub away : IsAway new page
  pub there : page < length new
  pub others : (p : ℕ) → p ≢ page → home_at new p ≡ home_at old p
  pub longer : length old ≤ length new

-- these pages were put where they lie
pub record HasPut (old new : List Home) (xs : List Sheet) : Type 0 where
  pub here : (x : Sheet) → In x xs → home_at new x.page ≡ Content x.content
  pub elsewhere : (p : ℕ) → (In p (sheet_pages xs) → ⊥) → home_at new p ≡ home_at old p
  pub size : length new ≡ length old

-- these pages were put, once there were homes enough
abbrev pub HasPutBehind : List Home → List Home → List Sheet → Type 0
HasPutBehind old new xs = (mid : List Home) × AreAlike old mid × HasPut mid new xs

-- each page lies as the map has it
abbrev pub LieAsMapped : PageMap → List Home → Type 0
LieAsMapped map homes = (p : ℕ) → home_at homes p ≡ home_of (lookup map p)

-- so they lie just after an opening; where the first record waits, its pages are there
abbrev pub HaveOpened : PageMap → Bool → List Home → Type 0
HaveOpened map true homes = LieAsMapped map homes
HaveOpened map false homes = (mid : List Home) × LieAsMapped map mid × HasPutBehind mid homes first_sheets

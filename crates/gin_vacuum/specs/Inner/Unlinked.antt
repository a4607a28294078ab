-- How far the pending list was read for rows of dead items.
use Rattle.std.specs.Prelude.{◌≡◌, ◌⊎◌, ◌↔◌, ℕ, suc, ◌<◌, ◌≤◌, List, ◌++◌, take, Bool, true, false}
use Rattle.disk_trait.specs.declared.device.Disk.{Ghosts as Disk}
use Rattle.page_types.specs.Views.{rows_of}
use Rattle.page_types.specs.declared.page.Head.{Head}
use Rattle.page_types.specs.declared.page.Page.{Page}
use Rattle.page_types.specs.declared.page.Body.TheVariants as body
use Rattle.page_types.specs.declared.page.Row.{Row}
use Rattle.core_state.specs.Log.{Log, Pages, In}
use Rattle.core_state.specs.Documents.{Doc, Has, IsChain}
use Rattle.core_state.specs.Index.{Line, IsLinked, HasRow}
use Rattle.buffer_frames.specs.Frames.{FramesValue}
use Rattle.buffer_frames.specs.Passes.{Seen}
use Rattle.buffer_frames.specs.declared.pass.Pass.{Pass}
use Rattle.gin_vacuum.specs.Finding.{WasDead}
use Rattle.gin_vacuum.specs.Unlinked.{HadRow}
use Rattle.gin_vacuum.specs.declared.unlinked.Walk.{Walk}

-- one of these rows has the item
abbrev pub HaveItem : List Row → ℕ → Type 0
HaveItem rows i = (w : Row) × In w rows × (w.item ≡ i)

-- the dead items that the rows have came to those that were met
abbrev pub HaveMet : List Row → List ℕ → List ℕ → List ℕ → Type 0
HaveMet rows dead old new = (i : ℕ) → In i new ↔ (In i old ⊎ (In i dead × HaveItem rows i))

-- these are the dead items but those that were met
abbrev pub AreOthers : List ℕ → List ℕ → List ℕ → Type 0
AreOthers dead met items = (i : ℕ) → In i items ↔ (In i dead × (In i met → ⊥))

-- the row is on one of so many pages of the list, from this one on
pub record IsAhead (P : Pages) (page left : ℕ) (w : Row) : Type 0 where
  pub rest : List ℕ
  pub chain : IsChain P page rest
  pub at : ℕ
  pub on : In at (take left rest)
  pub there : In w (rows_of (P at))

-- the page is on the list; or it is 0, past the last
pub record IsNextOn (P : Pages) (page : ℕ) : Type 0 where
  pub front : List ℕ
  pub rest : List ℕ
  pub line : Line P (front ++ rest)
  pub chain : IsChain P page rest

-- the item's document was dead in the log of `from` records by this floor, and has its slot still
pub record IsDeadSince (S : Log) (P : Pages) (from floor i : ℕ) : Type 0 where
  pub doc : Doc
  pub head : Head
  pub item : doc.item ≡ i
  pub was : WasDead S from floor doc
  pub has : Has P doc head

-- Each linked row of a dead item was met, or is on one of the pages that are left; and each item that was met has
-- such a row, and had one in the log of `from` records.
pub record IsWalked (from floor : ℕ) (dead : List ℕ) (page left : ℕ) (met : List ℕ) (S : Log) (P : Pages) : Type 0
  where
    pub since : (i : ℕ) → In i dead → IsDeadSince S P from floor i
    pub next : IsNextOn P page
    pub ahead : (w : Row) → In w.item dead → IsLinked P w → In w.item met ⊎ IsAhead P page left w
    pub had : (i : ℕ) → In i met → HadRow S from i × HasRow P i

-- the walk that began when its pass had seen `from` records, and had this floor
pub record IsWalkAt {D : Type 0} (device : Disk D) (f : FramesValue D) (pass : Pass) (from floor : ℕ) (dead : List ℕ)
    (page left : ℕ) (met : List ℕ) : Type 0 where
  pub some : 0 < from
  pub began : from ≤ pass.seen
  pub under : floor ≤ pass.floor
  pub those : (i : ℕ) → In i met → In i dead
  pub walked : Seen device f pass (IsWalked from floor dead page left met)

abbrev pub IsWalk : {D : Type 0} → Disk D → FramesValue D → Pass → ℕ → ℕ → List ℕ → Walk → Type 0
IsWalk device f pass from floor dead w = IsWalkAt device f pass from floor dead w.page w.left w.met.items

-- the rows of the page were noted, and the page after it is next; false says that it has none
pub data HasNoted (content : Page) (dead : List ℕ) (old new : Walk) : Bool → Type 0 where
  rows : (rows : List Row) → content.body ≡ body.Pending rows → HaveMet rows dead old.met.items new.met.items
      → new.page ≡ content.right → suc new.left ≡ old.left → HasNoted content dead old new true
  none : ((rows : List Row) → content.body ≡ body.Pending rows → ⊥) → HasNoted content dead old new false

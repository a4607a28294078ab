-- What is noted of a page that was read.
use Rattle.std.specs.Prelude.{◌≡◌, ◌≢◌, ◌⊎◌, ◌↔◌, ◌<◌, ℕ, List, [], ◌∷◌, ◌++◌, length, map, Vec, Result, Ok, Err}
use Rattle.std.specs.declared.alloc.Global.{Global}
use Rattle.page_types.specs.declared.page.Page.{Page}
use Rattle.page_types.specs.declared.page.Row.{Row}
use Rattle.page_types.specs.declared.page.Body.TheVariants as body
use Rattle.ts_base.specs.Keys.{Key}
use Rattle.core_state.specs.Log.{In}
use Rattle.core_state.specs.Index.{InRows}
use Rattle.gin_place.specs.declared.error.PlaceError.{PlaceError}
use Rattle.gin_place.specs.declared.error.PlaceError.TheVariants.{BadPage, OutOfMemory}
use Rattle.gin_cleanup.specs.Gathered.{Has, GrowsBy}
use Rattle.gin_cleanup.specs.Going.{IsRowPage}
use Rattle.gin_cleanup.specs.Inner.Between.{HasNext}
use Rattle.gin_cleanup.specs.declared.cleanup.Cleanup.{Cleanup}
use Rattle.gin_cleanup.specs.declared.cleanup.Stage.TheVariants as stage

-- each of these rows is of a document: none has the item 0
abbrev pub AreOfDocuments : List Row → Type 0
AreOfDocuments rows = (w : Row) → In w rows → 0 < w.item

-- the first of these rows is of one of the items
abbrev pub GoesOnWith : List Row → List ℕ → Type 0
GoesOnWith [] items = ⊥
GoesOnWith (w ∷ ws) items = In w.item items

-- this page is read next
abbrev pub IsReadNext : ℕ → Cleanup → Type 0
IsReadNext page c = (before : Vec ℕ Global) × (c.stage ≡ stage.Reading page before)

-- the rows are noted, and this page is read next
pub record HasTaken (rows : List Row) (right : ℕ) (old new : Cleanup) : Type 0 where
  pub left : new.left ≡ old.left
  pub gone : new.gone ≡ old.gone
  pub turns : new.turns ≡ old.turns
  pub counts : new.counts.items ≡ old.counts.items ++ length rows ∷ []
  pub pairs : (k : Key) (i : ℕ) → Has new.gathered k i ↔ (Has old.gathered k i ⊎ InRows rows k i)
  pub before : Vec ℕ Global
  pub stage_is : new.stage ≡ stage.Reading right before
  pub before_is : before.items ≡ map (λ (w : Row). w.item) rows

-- some pairs of rows were gathered, and nothing else is different
pub record HasKept (rows : List Row) (old new : Cleanup) : Type 0 where
  pub left : new.left ≡ old.left
  pub gone : new.gone ≡ old.gone
  pub turns : new.turns ≡ old.turns
  pub counts : new.counts.items ≡ old.counts.items
  pub pairs : GrowsBy (InRows rows) old.gathered new.gathered
  pub stage_is : new.stage ≡ old.stage

-- the batch has a page, and the first of these rows is of no item on the last one
pub record EndsBefore (rows : List Row) (c : Cleanup) : Type 0 where
  pub page : ℕ
  pub before : Vec ℕ Global
  pub stage_is : c.stage ≡ stage.Reading page before
  pub some : c.counts.items ≢ []
  pub other : GoesOnWith rows before.items → ⊥

-- The page with this number is none of rows of documents, and nothing is done; or the batch ends before it; or its
-- rows are noted. A refusal for memory may leave some of their pairs.
pub data HasNoted {A : Type 0} (page : ℕ) (content : Page) (old new : Cleanup) (result : Result A PlaceError) : Type 0
  where
    bad : (IsRowPage content → ⊥) → new ≡ old → result ≡ Err (BadPage page) → HasNoted page content old new result
    ends : (rows : List Row) → content.body ≡ body.Pending rows → EndsBefore rows old → HasNext old new
        → (x : A) → result ≡ Ok x → HasNoted page content old new result
    taken : (rows : List Row) → content.body ≡ body.Pending rows → AreOfDocuments rows
        → HasTaken rows content.right old new → (x : A) → result ≡ Ok x → HasNoted page content old new result
    kept : (rows : List Row) → content.body ≡ body.Pending rows → AreOfDocuments rows → HasKept rows old new
        → result ≡ Err OutOfMemory → HasNoted page content old new result

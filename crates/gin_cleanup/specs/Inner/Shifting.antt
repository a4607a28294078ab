-- What a Shift leaves, and when a pass may log it.
use Rattle.std.specs.Prelude.{◌≡◌, ◌-◌, ◌^◌, ◌<◌, ◌≤◌, ℕ, suc, List, [], ◌∷◌, length, Vec, ⊤}
use Rattle.std.specs.Prelude.{Option, Some, None}
use Rattle.std.specs.declared.alloc.Global.{Global}
use Rattle.disk_trait.specs.declared.device.Disk.{Ghosts as Disk}
use Rattle.page_types.specs.Numbers.{page_limit}
use Rattle.page_types.specs.Pages.{IsPage}
use Rattle.page_types.specs.Views.{rows_of}
use Rattle.page_types.specs.declared.page.Page.{Page}
use Rattle.page_types.specs.declared.page.Row.{Row}
use Rattle.page_types.specs.declared.page.Body.TheVariants as body
use Rattle.page_types.specs.declared.page.Gone.TheVariants as gone
use Rattle.page_types.specs.declared.record.Kind.TheVariants as kind
use Rattle.core_state.specs.Log.{Log, Pages}
use Rattle.core_state.specs.Index.{Line}
use Rattle.core_state.specs.Allowed.{Sheet, Step, MayLog, Owes}
use Rattle.core_state.specs.PendingRules.{IsLastAfter}
use Rattle.core_state.specs.Steps.{sheet}
use Rattle.buffer_frames.specs.Drawing.{HasEncoding}
use Rattle.buffer_frames.specs.Frames.{FramesValue, Stands, Behind}
use Rattle.buffer_frames.specs.Passes.{IsPassOf, IsHolding, Seen, IsLogged, view_of}
use Rattle.buffer_frames.specs.declared.pass.Pass.{Pass}
use Rattle.gin_place.specs.Placing.{HasRight}
use Rattle.gin_place.specs.declared.error.PlaceError.{PlaceError}
use Rattle.gin_place.specs.declared.error.PlaceError.TheVariants.{BadPage, OutOfMemory}
use Rattle.gin_cleanup.specs.Going.{CleansOn}
use Rattle.gin_cleanup.specs.declared.cleanup.Cleanup.{Cleanup}
use Rattle.gin_cleanup.specs.declared.cleanup.Stage.TheVariants as stage
use Rattle.gin_cleanup.specs.declared.first_page.First.{First}

-- the page is the first of the list
abbrev pub IsFirst : Pages → ℕ → Type 0
IsFirst P q = (rest : List ℕ) × Line P (q ∷ rest)

-- the metapage of the list without its first page, whose right link is this
pub record IsMetaWithout (old : Page) (right : ℕ) (new : Page) : Type 0 where
  pub first : ℕ
  pub last : ℕ
  pub pages : ℕ
  pub last_then : ℕ
  pub was : old.body ≡ body.Meta first last pages
  pub last_is : IsLastAfter right last last_then
  pub same : new ≡ record old { body = body.Meta right last_then (pages - 1) }

-- the page of rows, deleted: it keeps them
pub record IsDeletedOf (old new : Page) : Type 0 where
  pub rows : List Row
  pub was : old.body ≡ body.Pending rows
  pub same : new ≡ record old { body = body.Deleted (gone.Pending rows) }

-- the step by which the first page goes
pub record IsShiftStep (meta page : Sheet) (s : Step) : Type 0 where
  pub meta_then : Page
  pub deleted : Page
  pub kind_is : s.kind ≡ kind.Shift
  pub xid : s.xid ≡ 0
  pub after_is : s.after ≡ sheet meta.page meta_then ∷ sheet page.page deleted ∷ []
  pub meta_is : IsMetaWithout meta.content page.content.right meta_then
  pub deleted_is : IsDeletedOf page.content deleted
  pub pages : IsPage meta_then × IsPage deleted
  pub low : (meta.page < page_limit) × (page.page < page_limit)

-- What becomes of the first page, of which so many rows were noted, where the list may be read again so many times:
-- it goes by this step, or rows came to it, and it is read again.
abbrev pub IsFate : Sheet → Sheet → ℕ → ℕ → Option Step → Type 0
IsFate meta page noted turns (Some step) = (length (rows_of page.content) ≤ noted) × IsShiftStep meta page step
IsFate meta page noted turns None = (noted < length (rows_of page.content)) × (0 < turns)

-- why that is not said: it is no page of rows; or there is no memory, or the list is not read again
abbrev pub HasNoFate : Sheet → PlaceError → Type 0
HasNoFate page (BadPage n) =
    (n ≡ page.page) × ((rows : List Row) → page.content.body ≡ body.Pending rows → ⊥)
HasNoFate page OutOfMemory = ⊤
HasNoFate page e = ⊥

-- The metapage and the first page of the list are held, and are so in the log that the pass has seen.
pub record HoldsFirst {D : Type 0} (device : Disk D) (f : FramesValue D) (pass : Pass) (t : First) : Type 0 where
  pub holding : IsHolding device f pass (t.page ∷ t.meta ∷ [])
  pub meta_page : t.meta.page ≡ 0
  pub page_is : t.page.page ≡ t.names.first
  pub names : t.meta.content.body ≡ body.Meta t.names.first t.names.last t.names.pages
  pub seen : Seen device f pass (λ S P. (P 0 ≡ t.meta.content) × (P t.page.page ≡ t.page.content))

module _ {D : Type 0} (device : Disk D) (f : FramesValue D) (pass : Pass) (held : List Sheet) (step : Step) where
  -- the Shift may be logged by a pass with the right that holds these pages
  pub record MayShift : Type 0 where
    pub is_pass : IsPassOf f pass
    pub right : HasRight pass
    pub holding : IsHolding device f pass held
    pub encoded : HasEncoding step
    pub kind_is : step.kind ≡ kind.Shift
    pub pages : length step.after ≤ 2
    pub may : Behind device f (λ R. MayLog (view_of f pass R held) step)
    pub owes : (R : Log) → Stands device f R → Owes (view_of f pass R held) step

  -- and it is, after a log that was allowed to the pass
  pub record LogsShift (f' : FramesValue D) (pass' : Pass) : Type 0 where
    pub cleans : CleansOn device f pass f' pass' (12 ∷ [])
    pub all : pass'.seen ≡ f'.journal.state.records
    pub seen : Seen device f' pass' (λ S P. IsLogged (view_of f' pass S held) step S P)

-- the list is read from this page on, and nothing is noted
pub record HasTurned (page : ℕ) (old new : Cleanup) : Type 0 where
  pub left : new.left ≡ old.left
  pub gone : new.gone ≡ 0
  pub turns : new.turns ≡ old.turns
  pub counts : new.counts.items ≡ []
  pub gathered : new.gathered ≡ old.gathered
  pub before : Vec ℕ Global
  pub stage_is : new.stage ≡ stage.Reading page before
  pub before_is : before.items ≡ []

-- and it was read again once more
pub record HasTurnedAgain (page : ℕ) (old new : Cleanup) : Type 0 where
  pub few : old.left < 2 ^ 32
  pub turned : HasTurned page (record old { turns = old.turns - 1 }) new

-- the first page is gone: the next one of the batch is shifted, or, after the last one, this page is read
pub data HasGone (right : ℕ) (old new : Cleanup) : Type 0 where
  more : suc old.gone < length old.counts.items → new ≡ record old { left = old.left - 1; gone = suc old.gone }
      → HasGone right old new
  last : HasTurned right (record old { left = old.left - 1 }) new → HasGone right old new

-- A pass that deletes a document by a transaction of its own.
use Rattle.std.specs.Prelude.{◌≡◌, ◌≢◌, ◌<◌, ℕ, [], ◌∷◌, Option, Some, None, ⊤}
use Rattle.page_types.specs.Numbers.{page_limit, most_slots}
use Rattle.page_types.specs.Pages.{IsPage}
use Rattle.page_types.specs.Records.{IsKind}
use Rattle.page_types.specs.declared.page.Page.{Page}
use Rattle.page_types.specs.declared.page.Body.TheVariants as body
use Rattle.page_types.specs.declared.record.Kind.{Kind}
use Rattle.page_types.specs.declared.record.Kind.TheVariants as kind
use Rattle.core_state.specs.Allowed.{Step}
use Rattle.core_state.specs.Steps.{sheet}
use Rattle.buffer_frames.specs.Frames.{FramesValue}
use Rattle.buffer_frames.specs.Passes.{IsPassOf}
use Rattle.buffer_frames.specs.declared.pass.Pass.{Pass}
use Rattle.gin_place.specs.Placing.{HasRight}

-- the pass has the right of maintenance, this transaction, if any, and no snapshot, and holds no page
pub record Runs {D : Type 0} (f : FramesValue D) (pass : Pass) (xid : Option ℕ) : Type 0 where
  pub is_pass : IsPassOf f pass
  pub right : HasRight pass
  pub none : pass.held ≡ 0
  pub pin : pass.pin ≡ None
  pub xid_is : pass.xid ≡ xid
  pub room : pass.room ≡ 1

-- it is a beginning where no transaction runs, or the commit of the one that does
abbrev pub IsPlain : Kind → ℕ → Option ℕ → Type 0
IsPlain kind.Begin x xid = (x ≡ 0) × (xid ≡ None)
IsPlain (kind.Commit n) x xid = (n ≡ 0) × (xid ≡ Some x)
IsPlain _ x xid = ⊥

-- the transaction that runs then
abbrev pub IsXidThen : Kind → Option ℕ → Type 0
IsXidThen kind.Begin xid = (x : ℕ) × (xid ≡ Some x)
IsXidThen (kind.Commit n) xid = xid ≡ None
IsXidThen _ xid = ⊤

-- a page that is in use and has this slot, which was marked
pub record IsMarked (slot : ℕ) (page : Page) : Type 0 where
  pub is_page : IsPage page
  pub used : page.body ≢ body.Free
  pub below : slot < most_slots

-- the step leaves a page that is in use under this number, and its numbers fit
pub record IsMark (page x : ℕ) (step : Step) : Type 0 where
  pub item : ℕ
  pub serial : ℕ
  pub new : Page
  pub low : page < page_limit
  pub fits : IsKind (kind.MarkDeleted item serial)
  pub is_page : IsPage new
  pub used : new.body ≢ body.Free
  pub step_is : step ≡ record {
    kind = kind.MarkDeleted item serial;
    xid = x;
    after = sheet page new ∷ [];
  }

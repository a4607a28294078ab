-- The pages by which an empty leaf of a posting tree is deleted, and the step by which it goes.
use Rattle.std.specs.Prelude.{◌≡◌, ◌≢◌, ◌<◌, ℕ, List, [], ◌∷◌, ◌++◌, Option, Some, None}
use Rattle.disk_trait.specs.declared.device.Disk.{Ghosts as Disk}
use Rattle.page_types.specs.Numbers.{page_limit}
use Rattle.page_types.specs.Pages.{IsPage}
use Rattle.page_types.specs.declared.page.Page.{Page}
use Rattle.page_types.specs.declared.page.Body.TheVariants as body
use Rattle.page_types.specs.declared.page.Gone.TheVariants as gone
use Rattle.page_types.specs.declared.record.Kind.TheVariants as kind
use Rattle.core_state.specs.Log.{Log, In}
use Rattle.core_state.specs.Allowed.{Sheet, Step}
use Rattle.core_state.specs.Steps.{sheet}
use Rattle.posting_tree.specs.Unlinking.{IsUnlinked}
use Rattle.buffer_frames.specs.Frames.{FramesValue, Behind}
use Rattle.buffer_frames.specs.Passes.{Seen}
use Rattle.buffer_frames.specs.declared.pass.Pass.{Pass}
use Rattle.gin_place.specs.Causes.{CannotUse}
use Rattle.gin_place.specs.Holding.{ReadsOn}
use Rattle.gin_vacuum.specs.Sweeping.{IsAt}
use Rattle.gin_vacuum.specs.Stepping.{LeadsTo, IsEmptyPage}
use Rattle.gin_vacuum.specs.Inner.Logging.{LogsStep}
use Rattle.gin_vacuum.specs.declared.deleting.Empty.{Empty}
use Rattle.gin_vacuum.specs.declared.deleting.Around.{Around}
use Rattle.gin_vacuum.specs.declared.sweeping.Sweeping.{Sweeping}
use Rattle.gin_vacuum.specs.declared.sweeping.Stage.TheVariants as stage

-- the leaf before an empty one comes first, if there is one
abbrev pub with_before : Option Sheet → List Sheet → List Sheet
with_before None others = others
with_before (Some b) others = b ∷ others

-- these pages, as they are held
abbrev pub around_pages : Around → List Sheet
around_pages a = a.leaf ∷ with_before a.before (a.parent ∷ [])

-- the leaf before an empty one, which leads to it; none where that is the first
abbrev pub IsBefore : Empty → Option Sheet → Type 0
IsBefore e None = e.before ≡ 0
IsBefore e (Some b) = (e.before ≢ 0) × (b.page ≡ e.before) × LeadsTo e.page b.content

-- the empty leaf with its parent and the leaf before it
pub record IsAround (e : Empty) (parent : Sheet) (a : Around) : Type 0 where
  pub parent_is : a.parent ≡ parent
  pub leaf_is : a.leaf.page ≡ e.page
  pub leaf : IsEmptyPage e a.leaf.content
  pub before : IsBefore e a.before

-- a leaf with this right link, where there is one
abbrev pub left_before : ℕ → Option Sheet → List Sheet
left_before link None = []
left_before link (Some b) = sheet b.page (record b.content { right = link }) ∷ []

-- the empty leaf, deleted
abbrev pub deleted_leaf : ℕ → Page → Page
deleted_leaf high c = record c { body = body.Deleted (gone.PostLeaf high []) }

-- the step by which the leaf goes, and leaves its parent so
pub record IsDeleteStep (e : Empty) (a : Around) (without : Page) (s : Step) : Type 0 where
  pub kind_is : s.kind ≡ kind.DeletePost
  pub xid : s.xid ≡ 0
  pub after_is : s.after ≡ sheet a.leaf.page (deleted_leaf e.high a.leaf.content)
      ∷ (left_before e.link a.before ++ sheet a.parent.page without ∷ [])
  pub low : (x : Sheet) → In x s.after → x.page < page_limit
  pub fits : (x : Sheet) → In x s.after → IsPage x.content

-- the parent without the leaf
pub record IsWithout (page : ℕ) (old without : Page) : Type 0 where
  pub unlinked : IsUnlinked page old.body without.body
  pub same : without ≡ record old { body = without.body }
  pub fits : IsPage without

module _ {D : Type 0} (device : Disk D) where
  -- the leaf was found empty, and its parent is sought
  abbrev pub IsFoundEmpty : FramesValue D → Pass → Empty → Type 0
  IsFoundEmpty f pass e = (dead : List ℕ) × (m : Sweeping) × (page : ℕ) × (left : Option ℕ)
      × Seen device f pass (λ S P. IsAt P dead m (stage.Parent e page left))

  -- a bad page: the empty leaf isn't that, or the leaf before it does not lead to it, which is so in no legal log
  pub data IsBadAround (e : Empty) (f : FramesValue D) (p : ℕ) : Type 0 where
    leaf : p ≡ e.page → CannotUse f (IsEmptyPage e) p → Behind device f (λ (R : Log). ⊥) → IsBadAround e f p
    before : p ≡ e.before → CannotUse f (LeadsTo e.page) p → Behind device f (λ (R : Log). ⊥) → IsBadAround e f p

  -- the leaf was held with the pages around it, and is gone
  pub record LogsDelete (f : FramesValue D) (pass : Pass) (e : Empty) (parent : Sheet) (without : Page)
      (f' : FramesValue D) (pass' : Pass) : Type 0 where
    pub frames_held : FramesValue D
    pub pass_held : Pass
    pub reads : ReadsOn device f pass frames_held pass_held
    pub around : Around
    pub is_around : IsAround e parent around
    pub step : Step
    pub is_step : IsDeleteStep e around without step
    pub logged : LogsStep device frames_held pass_held (around_pages around) step f' pass'

-- Where placing is after a page was read.
use Rattle.std.specs.Prelude.{◌≡◌, ◌-◌, ◌+◌, ℕ, List, [], ◌∷◌, drop, Bool, true, false, Option, Some, None, Result, Ok}
use Rattle.std.specs.Prelude.{Err}
use Rattle.page_types.specs.Records.{kind_number}
use Rattle.page_types.specs.declared.record.Kind.{Kind}
use Rattle.page_types.specs.declared.record.Kind.TheVariants as kind
use Rattle.disk_trait.specs.declared.device.Disk.{Ghosts as Disk}
use Rattle.page_types.specs.Items.{AreItems}
use Rattle.page_types.specs.Keys.{IsKey}
use Rattle.page_types.specs.Pages.{IsPage}
use Rattle.core_state.specs.Allowed.{Sheet}
use Rattle.buffer_frames.specs.Frames.{FramesValue}
use Rattle.buffer_frames.specs.Passes.{IsPassOf, IsHolding, Seen}
use Rattle.buffer_frames.specs.declared.pass.Pass.{Pass}
use Rattle.gin_place.specs.Placing.{HasRight, ArePending, IsPlacing}
use Rattle.gin_place.specs.Trees.{tree_of}
use Rattle.gin_place.specs.declared.error.PlaceError.{PlaceError}
use Rattle.gin_place.specs.declared.error.PlaceError.TheVariants.{BadPage}
use Rattle.gin_place.specs.declared.placing.Placing.{Placing}
use Rattle.gin_place.specs.declared.placing.Stage.{Stage}
use Rattle.gin_place.specs.declared.placing.Stage.TheVariants as stage
use Rattle.gin_place.specs.declared.reading.Next.{Next}
use Rattle.gin_place.specs.declared.reading.Next.TheVariants as next
use Rattle.gin_place.specs.declared.sought.Sought.{Sought}
use Rattle.gin_place.specs.declared.sought.Sought.TheVariants as sought

-- the page that is read next is held, alone
pub record HoldsAt {D : Type 0} (device : Disk D) (f : FramesValue D) (pass : Pass) (key items : List ℕ) (s : Placing)
    (t : Sought) (parent page : ℕ) (h : Sheet) : Type 0 where
  pub is_pass : IsPassOf f pass
  pub right : HasRight pass
  pub holding : IsHolding device f pass (h ∷ [])
  pub seen : Seen device f pass (λ S P. P page ≡ h.content)
  pub number : h.page ≡ page
  pub is_page : IsPage h.content
  pub is_key : IsKey key
  pub are_items : AreItems items
  pub rows : ArePending device f pass key items
  pub at : s.stage ≡ stage.At t parent page
  pub placing : IsPlacing device f pass key items s

-- the root of the entry tree, or of a posting tree, where the first of these items is sought; the end where none is
-- left
abbrev pub stage_from : Option ℕ → List ℕ → Stage
stage_from tree [] = stage.Done
stage_from None (item ∷ rest) = stage.At sought.Key 0 1
stage_from (Some root) (item ∷ rest) = stage.At (sought.Item root item) 0 root

-- whether there are some
abbrev pub has_some : List ℕ → Bool
has_some [] = false
has_some (item ∷ rest) = true

-- a way begins at the root of a tree, for the items that are not known to be under the key
abbrev pub Seeks : Option ℕ → List ℕ → Placing → Placing → Bool → Type 0
Seeks tree items old new more =
    (more ≡ has_some (drop old.from items)) × (new.stage ≡ stage_from tree (drop old.from items))
    × (more ≡ true → new.left ≡ None) × (new.from ≡ old.from) × (new.making_room ≡ old.making_room)

-- likewise where so many more of the items are under the key
abbrev pub Puts : ℕ → Sought → List ℕ → Placing → Placing → Bool → Type 0
Puts count s items old new more = Seeks (tree_of s) items (record old { from = old.from + count }) new more

-- on to the child; to the root of the key's posting tree; past items that are under the key; or nowhere
abbrev pub GoesOn : Placing → Placing → Sought → List ℕ → ℕ → ℕ → Next → Result Bool PlaceError → Type 0
GoesOn old new s items page left (next.Down child) r =
    (r ≡ Ok true) × (new ≡ record old { stage = stage.At s page child; left = Some (left - 1) })
GoesOn old new s items page left (next.Tree root) r = (b : Bool) × (r ≡ Ok b) × Seeks (Some root) items old new b
GoesOn old new s items page left (next.Stand count) r = (b : Bool) × (r ≡ Ok b) × Puts count s items old new b
GoesOn old new s items page left next.Bad r = (r ≡ Err (BadPage page)) × (new ≡ old)

-- the record by which items come to a leaf: AddItems, AddPostings
abbrev pub kind_by : Sought → Kind
kind_by sought.Key = kind.AddItems
kind_by (sought.Item root item) = kind.AddPostings

abbrev pub adding_kind : Sought → ℕ
adding_kind s = kind_number (kind_by s)

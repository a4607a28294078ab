-- What is read next after a leaf, and what is so once dead items have left one.
use Rattle.std.specs.Prelude.{◌≡◌, ◌≢◌, ◌+◌, ◌≤◌, ℕ, List, [], ◌∷◌, length, Option, Some, None, Bool, true}
use Rattle.std.specs.List.{slice_get}
use Rattle.disk_trait.specs.declared.device.Disk.{Ghosts as Disk}
use Rattle.page_types.specs.declared.page.Page.{Page}
use Rattle.page_types.specs.declared.record.Kind.TheVariants as kind
use Rattle.core_state.specs.Allowed.{Sheet}
use Rattle.core_state.specs.States.{StateTells}
use Rattle.core_state.specs.Steps.{sheet}
use Rattle.buffer_frames.specs.Frames.{FramesValue}
use Rattle.buffer_frames.specs.Passes.{IsPassOf, IsHolding, Seen}
use Rattle.buffer_frames.specs.declared.pass.Pass.{Pass}
use Rattle.gin_place.specs.Holding.{ReadsOn}
use Rattle.gin_place.specs.Placing.{HasRight}
use Rattle.gin_vacuum.specs.Vacuum.{AreDead}
use Rattle.gin_vacuum.specs.Stepping.{IsSpent}
use Rattle.gin_vacuum.specs.Inner.Logging.{LogsStep}
use Rattle.gin_vacuum.specs.Inner.Reading.{IsCleaned}
use Rattle.gin_vacuum.specs.declared.deleting.Empty.{Empty}
use Rattle.gin_vacuum.specs.declared.sweeping.Sweeping.{Sweeping}
use Rattle.gin_vacuum.specs.declared.sweeping.Stage.TheVariants as stage

-- nothing is read yet
abbrev pub begun : Sweeping → Type 0
begun s = (s.stage ≡ stage.Down 1) × (s.roots.items ≡ []) × (s.next ≡ 0) × (s.left ≡ None)

-- as many pages were read as there are, by what the pass has seen then
pub record WasSpent {D : Type 0} (device : Disk D) (left : Option ℕ) (f : FramesValue D) (pass : Pass) : Type 0 where
  pub spent : IsSpent left f
  pub told : Seen device f pass (λ S P. StateTells S f.journal.state)

-- the next tree of the leaf at work is next; or the next leaf; or nothing
pub data HasNextTree (old : Sweeping) : Sweeping → Type 0 where
  tree : (root : ℕ) → slice_get old.roots.items old.next ≡ Some root
      → HasNextTree old (record old { stage = stage.TreeDown root root; next = old.next + 1; left_below = None })
  leaf : length old.roots.items ≤ old.next → old.link ≢ 0
      → HasNextTree old (record old { stage = stage.Leaf old.link; left_below = None })
  done : length old.roots.items ≤ old.next → old.link ≡ 0
      → HasNextTree old (record old { stage = stage.Done; left_below = None })

-- the leaf to which this one leads is next, or the next tree
pub data GoesPast (root before link : ℕ) (old : Sweeping) : Sweeping → Type 0 where
  leaf : link ≢ 0 → GoesPast root before link old (record old { stage = stage.Posts root before link })
  tree : (new : Sweeping) → link ≡ 0 → HasNextTree old new → GoesPast root before link old new

-- the parent of the leaf is next, where it is empty and not the last; or what comes after it
pub data HasGoneOn (leaf : Empty) (is_empty : Bool) (old : Sweeping) : Sweeping → Type 0 where
  parent : is_empty ≡ true → leaf.high ≢ 0
      → HasGoneOn leaf is_empty old (record old { stage = stage.Parent leaf leaf.root None })
  past : (new : Sweeping) → GoesPast leaf.root leaf.page leaf.link old new → HasGoneOn leaf is_empty old new

-- A page is held from which dead items are to go, where it has some.
pub record IsRemoval {D : Type 0} (device : Disk D) (f : FramesValue D) (pass : Pass) (dead : List ℕ) (held : Sheet)
    (cleaned : Option Page) : Type 0 where
  pub is_pass : IsPassOf f pass
  pub right : HasRight pass
  pub holding : IsHolding device f pass (held ∷ [])
  pub seen : Seen device f pass (λ S P. P held.page ≡ held.content)
  pub leave : AreDead device f pass dead
  pub is_cleaned : IsCleaned dead held.content cleaned

-- nothing is logged where it has none; else the page is left so
abbrev pub HasCleaned : {D : Type 0} → Disk D → FramesValue D → Pass → FramesValue D → Pass → Sheet → Option Page
    → Type 0
HasCleaned device f pass f' pass' held None = ReadsOn device f pass f' pass'
HasCleaned device f pass f' pass' held (Some p) =
    LogsStep device f pass (held ∷ []) (record { kind = kind.RemoveItems; xid = 0; after = sheet held.page p ∷ [] })
    f' pass'

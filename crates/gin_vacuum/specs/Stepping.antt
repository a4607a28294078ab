-- What a step leaves by which dead items leave the trees.
use Rattle.std.specs.Prelude.{◌≡◌, ◌≢◌, ◌⊎◌, ℕ, ◌+◌, ◌*◌, ◌-◌, ◌^◌, ◌≤◌, List, [], length, Option, Some, None}
use Rattle.std.specs.Prelude.{Result, IfErr, OnOk, OnErr, ⊤}
use Rattle.std.specs.List.{AllByRecursion}
use Rattle.disk_trait.specs.declared.device.Disk.{Ghosts as Disk}
use Rattle.wal.specs.Waiting.{down_of}
use Rattle.page_types.specs.declared.page.Page.{Page}
use Rattle.page_types.specs.declared.page.Body.TheVariants as body
use Rattle.core_state.specs.Log.{Log}
use Rattle.core_state.specs.PageChoice.{IsLeast, AreBelow}
use Rattle.entry_tree.specs.Finding.{IsEntryBody}
use Rattle.entry_tree.specs.Adding.{IsEntryLeaf}
use Rattle.posting_tree.specs.Adding.{IsPostLeaf}
use Rattle.posting_tree.specs.Finding.{IsFound}
use Rattle.posting_tree.specs.Reading.{IsPostBody}
use Rattle.posting_tree.specs.declared.finding.Found.TheVariants as found
use Rattle.buffer_frames.specs.Frames.{FramesValue, Behind}
use Rattle.buffer_frames.specs.declared.pass.Pass.{Pass}
use Rattle.gin_place.specs.Causes.{Finds, CannotUse, NoBadPage, HasFault}
use Rattle.gin_place.specs.Faults.{MetNoFault, FaultBy}
use Rattle.gin_place.specs.Stepping.{reads_left, most_reads}
use Rattle.gin_place.specs.declared.error.PlaceError.{PlaceError}
use Rattle.gin_place.specs.declared.error.PlaceError.TheVariants.{StoreFull, LogFull, DiskFault, Down, BadPage}
use Rattle.gin_place.specs.declared.error.PlaceError.TheVariants.{OutOfMemory}
use Rattle.gin_vacuum.specs.Going.{VacuumsOn, HasNoRoom}
use Rattle.gin_vacuum.specs.Sweeping.{IsSweeping}
use Rattle.gin_vacuum.specs.declared.deleting.Empty.{Empty}
use Rattle.gin_vacuum.specs.declared.sweeping.Sweeping.{Sweeping}
use Rattle.gin_vacuum.specs.declared.sweeping.Stage.{Stage}
use Rattle.gin_vacuum.specs.declared.sweeping.Stage.TheVariants as stage

-- the kinds of the records by which items leave the trees: RemoveItems, DeletePost
abbrev pub IsSweepKind : ℕ → Type 0
IsSweepKind k = (18 ≤ k) × (k ≤ 19)

-- the page that is read next
abbrev pub IsNext : Stage → ℕ → Type 0
IsNext (stage.Down page) p = p ≡ page
IsNext (stage.Leaf page) p = p ≡ page
IsNext (stage.TreeDown root page) p = p ≡ page
IsNext (stage.Posts root before page) p = p ≡ page
IsNext (stage.Parent empty page left) p = p ≡ page
IsNext stage.Done p = ⊥

-- what lies there: a page of the tree, a leaf of it, or an inner page above the place of an empty leaf
abbrev pub IsPlaceOf : Stage → Page → Type 0
IsPlaceOf (stage.Down page) c = IsEntryBody c.body
IsPlaceOf (stage.Leaf page) c = IsEntryLeaf c.body
IsPlaceOf (stage.TreeDown root page) c = IsPostBody c.body
IsPlaceOf (stage.Posts root before page) c = IsPostLeaf c.body
IsPlaceOf (stage.Parent empty page left) c = (child : ℕ) × IsFound c empty.high (found.Down child)
IsPlaceOf stage.Done c = ⊤

-- how many pages more may be read in the tree, none before the first
abbrev pub left_of : Sweeping → Stage → Option ℕ
left_of s (stage.TreeDown root page) = s.left_below
left_of s (stage.Posts root before page) = s.left_below
left_of s (stage.Parent empty page left) = left
left_of s _ = s.left

-- as many as pages have numbers were read
abbrev pub IsSpent : {D : Type 0} → Option ℕ → FramesValue D → Type 0
IsSpent left f = (left ≡ Some 0) ⊎ ((left ≡ None) × IsLeast (AreBelow f.journal.state) 0)

-- a leaf of a posting tree, but the last, with this right link; this empty leaf
abbrev pub LeadsTo : ℕ → Page → Type 0
LeadsTo link c = (high : ℕ) × (items : List ℕ) × (c.body ≡ body.PostLeaf high items) × (high ≢ 0) × (c.right ≡ link)

abbrev pub IsEmptyPage : Empty → Page → Type 0
IsEmptyPage e c = (c.body ≡ body.PostLeaf e.high []) × (c.right ≡ e.link)

-- A bad page: the one that is read next isn't what lies there in a tree, or as many were read as pages may have
-- numbers; or the leaf that is to go, or the one before it, isn't that; which are so in no legal log.
pub data IsBad {D : Type 0} (device : Disk D) (s : Sweeping) (f : FramesValue D) (p : ℕ) : Type 0 where
  read : IsNext s.stage p → CannotUse f (IsPlaceOf s.stage) p → Behind device f (λ (R : Log). ⊥) → IsBad device s f p
  far : IsNext s.stage p → IsSpent (left_of s s.stage) f → Behind device f (λ (R : Log). ⊥) → IsBad device s f p
  empty_leaf : (e : Empty) (page : ℕ) (left : Option ℕ) → s.stage ≡ stage.Parent e page left → p ≡ e.page
      → CannotUse f (IsEmptyPage e) p → Behind device f (λ (R : Log). ⊥) → IsBad device s f p
  leaf_before : (e : Empty) (page : ℕ) (left : Option ℕ) → s.stage ≡ stage.Parent e page left → p ≡ e.before
      → CannotUse f (LeadsTo e.page) p → Behind device f (λ (R : Log). ⊥) → IsBad device s f p

module _ {D : Type 0} (device : Disk D) where
  -- why a step is refused that leaves the frames so, where `Bad` is said of bad pages; the store is never full
  abbrev pub IsCause : (FramesValue D → ℕ → Type 0) → FramesValue D → PlaceError → FramesValue D → Pass → Type 0
  IsCause Bad left StoreFull f pass = ⊥
  IsCause Bad left LogFull f pass = HasNoRoom f
  IsCause Bad left DiskFault f pass = HasFault device f left
  IsCause Bad left (Down fault) f pass = down_of f.journal.wal ≡ Some fault
  IsCause Bad left (BadPage p) f pass = Bad f p
  IsCause Bad left OutOfMemory f pass = ⊤

-- one of some step
abbrev pub IsBadIn : {D : Type 0} → Disk D → FramesValue D → ℕ → Type 0
IsBadIn device f p = (s : Sweeping) × IsBad device s f p

-- how many pages of the posting tree at work may be read, and on the way to a parent
abbrev pub below_left : Sweeping → Stage → ℕ
below_left s (stage.TreeDown root page) = reads_left s.left_below
below_left s (stage.Posts root before page) = reads_left s.left_below
below_left s (stage.Parent empty page left) = reads_left s.left_below
below_left s _ = 0

abbrev pub above_left : Stage → ℕ
above_left (stage.Parent empty page left) = reads_left left
above_left _ = 0

-- no more steps than these come until the end
abbrev pub steps_left : Sweeping → ℕ
steps_left s =
    ((reads_left s.left * 2 ^ 16 + (length s.roots.items - s.next)) * most_reads + below_left s s.stage) * most_reads
    + above_left s.stage

-- Dead items have left the trees so far, after a refusal too. At most one record was logged, none where the step is
-- refused, and no page is held; a refusal leaves the machine as it was, and its cause is said; a lawful store meets no
-- bad page. Each step that is not refused brings the end nearer.
pub record HasSwept {D : Type 0} {T : Type 0} (device : Disk D) (f : FramesValue D) (pass : Pass) (f' : FramesValue D)
    (pass' : Pass) (dead : List ℕ) (old new : Sweeping) (result : Result T PlaceError) : Type 0 where
  pub sweeping : IsSweeping device f' pass' dead new
  pub none_held : pass'.held ≡ 0
  pub works : (kinds : List ℕ) × (length kinds ≤ 1) × AllByRecursion IsSweepKind kinds
      × VacuumsOn device f pass f' pass' kinds
  pub refused : OnErr result (VacuumsOn device f pass f' pass' [])
  pub unmoved : OnErr result (new ≡ old)
  pub cause : IfErr result (λ e. Finds device f pass (IsCause device (IsBad device old) f' e))
  pub lawful : IfErr result (NoBadPage device f)
  pub fine : OnOk result (MetNoFault device f f')
  pub fault : IfErr result (FaultBy device f f')

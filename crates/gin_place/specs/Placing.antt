-- How far items have come under their key, as a pass has seen it.
use Rattle.std.specs.Prelude.{◌≡◌, ◌≢◌, ℕ, ◌<◌, ◌≤◌, ⊤, List, ◌∷◌, length, take, drop, Option, Some, None, Bool, true}
use Rattle.std.specs.Prelude.{false}
use Rattle.disk_trait.specs.declared.device.Disk.{Ghosts as Disk}
use Rattle.ts_base.specs.Keys.{Key}
use Rattle.core_state.specs.Log.{In}
use Rattle.core_state.specs.Index.{Pending, Main, IsNamed}
use Rattle.core_state.specs.TreeRules.{IsRoot}
use Rattle.buffer_frames.specs.Frames.{FramesValue}
use Rattle.buffer_frames.specs.Passes.{Seen}
use Rattle.buffer_frames.specs.declared.pass.Pass.{Pass}
use Rattle.gin_place.specs.Trees.{root_of, HasRoomIn, GoesDown, Leads, IsHighIn}
use Rattle.gin_place.specs.declared.placing.Placing.{Placing}
use Rattle.gin_place.specs.declared.placing.Stage.{Stage}
use Rattle.gin_place.specs.declared.placing.Stage.TheVariants as stage
use Rattle.gin_place.specs.declared.sought.Sought.{Sought}
use Rattle.gin_place.specs.declared.sought.Sought.TheVariants as sought

-- nothing is read yet
abbrev pub at_root : Placing
at_root = record { stage = stage.At sought.Key 0 1; from = 0; left = None; making_room = false }

-- the pass has the right of maintenance, and has seen what was logged before it got it
pub record HasRight (pass : Pass) : Type 0 where
  pub at : ℕ
  pub has : pass.work ≡ Some at
  pub within : at ≤ pass.seen

-- what is sought is the key, or the first of the items
abbrev pub IsFirst : List ℕ → Sought → Type 0
IsFirst items sought.Key = ⊤
IsFirst items (sought.Item root item) = (rest : List ℕ) × (items ≡ item ∷ rest)

-- likewise of the items that are not known to be under the key
abbrev pub IsNext : List ℕ → ℕ → Sought → Type 0
IsNext items from s = IsFirst (drop from items) s

module _ {D : Type 0} (device : Disk D) (f : FramesValue D) (pass : Pass) where
  -- a linked row has the key and the item
  abbrev pub IsPending : Key → ℕ → Type 0
  IsPending k i = Seen device f pass (λ S P. Pending P k i)

  -- the pair of the key and the item is in the main part
  abbrev pub IsPlaced : Key → ℕ → Type 0
  IsPlaced k i = Seen device f pass (λ S P. Main P k i)

  -- an entry of the key names the posting tree with this root
  abbrev pub IsTree : Key → ℕ → Type 0
  IsTree k root = Seen device f pass (λ S P. IsNamed P k root)

  -- the way for what is sought leads from the root of its tree to this page
  abbrev pub IsOnWay : Key → Sought → ℕ → Type 0
  IsOnWay k s page = Seen device f pass (λ S P. Leads P k s page)

  -- the root of the tree is one
  abbrev pub IsRootOf : Sought → Type 0
  IsRootOf s = Seen device f pass (λ S P. IsRoot P (root_of s))

  -- a linked row has the key and each of the items
  abbrev pub ArePending : Key → List ℕ → Type 0
  ArePending k items = (i : ℕ) → In i items → IsPending k i

  -- all the items are under the key in the main part
  abbrev pub ArePlaced : Key → List ℕ → Type 0
  ArePlaced k items = (i : ℕ) → In i items → IsPlaced k i

  -- so many of them, the first, are
  abbrev pub AreFirstPlaced : Key → List ℕ → ℕ → Type 0
  AreFirstPlaced k items n = (n ≤ length items) × ArePlaced k (take n items)

  -- the way leads to the page that is read next; or all the items are under the key
  abbrev pub IsAt : Key → List ℕ → ℕ → Stage → Type 0
  IsAt k items from (stage.At s parent page) = IsNext items from s × IsOnWay k s page
  IsAt k items from stage.Done = ArePlaced k items

  -- the way leads to this page, and from it down in fewer steps than these
  abbrev pub IsLeft : Key → Sought → ℕ → ℕ → Type 0
  IsLeft k s page n = Seen device f pass (λ S P. Leads P k s page × (h : ℕ) × IsHighIn P s h page × (h < n))

  -- how many pages more the way may read is enough; before its first, which is the root, none is said
  abbrev pub AreLeft : Key → Stage → Option ℕ → Type 0
  AreLeft k (stage.At s parent page) None = page ≡ root_of s
  AreLeft k (stage.At s parent page) (Some n) = IsLeft k s page n
  AreLeft k stage.Done left = ⊤

  -- the way leads to this page and on to this child of it, and the page has room for a child more
  abbrev pub IsRoomAbove : Key → Sought → ℕ → ℕ → Type 0
  IsRoomAbove k s parent page =
      Seen device f pass (λ S P. Leads P k s parent × GoesDown k s (P parent) page × HasRoomIn s (P parent))

  -- where room is made, the page that is read next is the root, or its parent is such a page
  abbrev pub HasRoomAbove : Key → Bool → Stage → Type 0
  HasRoomAbove k making (stage.At s parent page) =
      making ≡ true → page ≢ root_of s → IsRoomAbove k s parent page
  HasRoomAbove k making stage.Done = ⊤

  abbrev pub IsPlacing : Key → List ℕ → Placing → Type 0
  IsPlacing k items p =
      IsAt k items p.from p.stage × AreLeft k p.stage p.left × HasRoomAbove k p.making_room p.stage
      × AreFirstPlaced k items p.from

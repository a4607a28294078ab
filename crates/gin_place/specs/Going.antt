-- How calls of a pass with the right of maintenance go on: what they log, and what is so still.
use Rattle.std.specs.Prelude.{◌≡◌, ◌≤◌, ℕ, List}
use Rattle.std.specs.List.{AllByRecursion}
use Rattle.disk_trait.specs.declared.device.Disk.{Ghosts as Disk}
use Rattle.ts_base.specs.Keys.{Key}
use Rattle.buffer_frames.specs.Frames.{FramesValue}
use Rattle.buffer_frames.specs.Passes.{IsPassOf, HasAdded, PassRises}
use Rattle.buffer_frames.specs.declared.pass.Pass.{Pass}
use Rattle.gin_place.specs.Running.{StoreGoesOn}
use Rattle.gin_place.specs.declared.sought.Sought.{Sought}
use Rattle.gin_place.specs.Placing.{IsPending, IsPlaced, IsTree, IsOnWay}

-- the kinds of the records by which items come into the trees: AddItems, MakeTree, AddPostings, GrowRoot, Split
abbrev pub IsPlacingKind : ℕ → Type 0
IsPlacingKind k = (13 ≤ k) × (k ≤ 17)

module _ {D : Type 0} (device : Disk D) (f : FramesValue D) (pass : Pass) (f' : FramesValue D) (pass' : Pass) where
  -- linked rows with their keys, and pairs of the main part, are so still
  pub record KeepsPairs : Type 0 where
    pub pending : (k : Key) (i : ℕ) → IsPending device f pass k i → IsPending device f' pass' k i
    pub placed : (k : Key) (i : ℕ) → IsPlaced device f pass k i → IsPlaced device f' pass' k i

  -- entries name the same posting trees
  abbrev pub KeepsTrees : Type 0
  KeepsTrees = (k : Key) (root : ℕ) → IsTree device f pass k root → IsTree device f' pass' k root

  -- and ways down are the same
  abbrev pub KeepsWays : Type 0
  KeepsWays = (k : Key) (s : Sought) (p : ℕ) → IsOnWay device f pass k s p → IsOnWay device f' pass' k s p

  -- The pass has its pin, its transaction, its right and its room, has seen no less, and the records that
  -- were logged are of these kinds, by which items come into the trees.
  pub record WorksOn (kinds : List ℕ) : Type 0 where
    pub is_pass : IsPassOf f' pass'
    pub added : HasAdded device f f' kinds
    pub placing : AllByRecursion IsPlacingKind kinds
    pub pairs : KeepsPairs
    pub trees : KeepsTrees
    pub rises : PassRises pass pass'
    pub pin : pass'.pin ≡ pass.pin
    pub room : pass'.room ≡ pass.room
    pub xid : pass'.xid ≡ pass.xid
    pub work : pass'.work ≡ pass.work
    pub pins : f'.pins ≡ f.pins
    pub goes : StoreGoesOn device f f' kinds

-- How far items have come stays in calls that log nothing; and where nothing is read yet none has come.
use Rattle.std.proofs.Common.{ℕ, List, [], take, refl, arith}
use Rattle.std.specs.Prelude.{Option, Some, None, Bool}
use Rattle.disk_trait.specs.declared.device.Disk.{Ghosts as Disk}
use Rattle.ts_base.specs.Keys.{Key}
use Rattle.core_state.specs.TreeRules.{Toward}
use Rattle.buffer_frames.specs.Frames.{FramesValue}
use Rattle.buffer_frames.specs.declared.pass.Pass.{Pass}
use Rattle.gin_place.specs.Placing.{IsOnWay, ArePending, ArePlaced, AreFirstPlaced, IsAt, AreLeft, HasRoomAbove}
use Rattle.gin_place.specs.Placing.{IsPlacing, at_root}
use Rattle.gin_place.specs.Going.{WorksOn}
use Rattle.gin_place.specs.Holding.{ReadsOn}
use Rattle.gin_place.specs.declared.placing.Placing.{Placing}
use Rattle.gin_place.specs.declared.placing.Stage.{Stage}
use Rattle.gin_place.specs.declared.placing.Stage.TheVariants as stage
use Rattle.gin_place.specs.declared.sought.Sought.TheVariants as sought

module _ {D : Type 0} (device : Disk D) (f g : FramesValue D) (p q : Pass) where
  pub pending_still : (ks : List ℕ) → WorksOn device f p g q ks → (k : Key) (items : List ℕ)
      → ArePending device f p k items → ArePending device g q k items
  pending_still ks works k items rows = λ i on. works.pairs.pending k i (rows i on)

  pub placed_still : (ks : List ℕ) → WorksOn device f p g q ks → (k : Key) (items : List ℕ)
      → ArePlaced device f p k items → ArePlaced device g q k items
  placed_still ks works k items placed = λ i on. works.pairs.placed k i (placed i on)

  pub first_still : (ks : List ℕ) → WorksOn device f p g q ks → (k : Key) (items : List ℕ) (n : ℕ)
      → AreFirstPlaced device f p k items n → AreFirstPlaced device g q k items n
  first_still ks works k items n had = (had.0, placed_still ks works k (take n items) had.1)

  pub at_still : ReadsOn device f p g q → (k : Key) (items : List ℕ) (from : ℕ) (s : Stage)
      → IsAt device f p k items from s → IsAt device g q k items from s
  at_still reads k items from (stage.At s parent page) is = (is.0, reads.ways k s page is.1)
  at_still reads k items from stage.Done placed = placed_still [] reads.works k items placed

  pub left_still : ReadsOn device f p g q → (k : Key) (s : Stage) (o : Option ℕ) → AreLeft device f p k s o
      → AreLeft device g q k s o
  left_still reads k (stage.At s parent page) None is = is
  left_still reads k (stage.At s parent page) (Some n) had = reads.left k s page n had
  left_still reads k stage.Done o is = tt

  pub above_still : ReadsOn device f p g q → (k : Key) (making : Bool) (s : Stage) → HasRoomAbove device f p k making s
      → HasRoomAbove device g q k making s
  above_still reads k making (stage.At s parent page) had = λ is other. reads.above k s parent page (had is other)
  above_still reads k making stage.Done had = tt

  pub placing_still : ReadsOn device f p g q → (k : Key) (items : List ℕ) (s : Placing) → IsPlacing device f p k items s
      → IsPlacing device g q k items s
  placing_still reads k items s is = (
    at_still reads k items s.from s.stage is.0,
    left_still reads k s.stage s.left is.1,
    above_still reads k s.making_room s.stage is.2,
    first_still [] reads.works k items s.from is.3,
  )

module _ {D : Type 0} (device : Disk D) (f : FramesValue D) (p : Pass) where
  -- the root of the entry tree is on the way for each key
  pub root_way : (k : Key) → IsOnWay device f p k sought.Key 1
  root_way k t up R stands legal P shown = Toward.here

  -- nothing is read yet
  pub begins_placing : (k : Key) (items : List ℕ) → IsPlacing device f p k items at_root
  begins_placing k items = (
    (tt, root_way k),
    refl,
    (λ making other. absurd (other refl)),
    (omega arith, λ i on. absurd on),
  )

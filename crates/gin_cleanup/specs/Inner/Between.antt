-- Between two keys of a batch: nothing is at work.
use Rattle.std.specs.Prelude.{◌≡◌, ◌≢◌, ℕ, ◌^◌, ◌<◌, ◌≤◌, [], length, Vec, ⊤}
use Rattle.std.specs.declared.alloc.Global.{Global}
use Rattle.disk_trait.specs.declared.device.Disk.{Ghosts as Disk}
use Rattle.core_state.specs.Log.{In}
use Rattle.buffer_frames.specs.Frames.{FramesValue}
use Rattle.buffer_frames.specs.Passes.{Seen}
use Rattle.buffer_frames.specs.declared.pass.Pass.{Pass}
use Rattle.gin_place.specs.Placing.{IsPending}
use Rattle.gin_place.specs.Placing.{at_root}
use Rattle.gin_cleanup.specs.Cleaning.{waits_in, ArePairs, AreLeft}
use Rattle.gin_cleanup.specs.Gathered.{GivesFirst}
use Rattle.gin_cleanup.specs.Gathering.{Wait, IsBatch}
use Rattle.gin_cleanup.specs.declared.cleanup.Cleanup.{Cleanup}
use Rattle.gin_cleanup.specs.declared.cleanup.Stage.{Stage}
use Rattle.gin_cleanup.specs.declared.cleanup.Stage.TheVariants as stage

-- a batch of which no page was shifted, and no key is at work
pub record IsBetween {D : Type 0} (device : Disk D) (f : FramesValue D) (pass : Pass) (from : ℕ) (c : Cleanup)
    : Type 0 where
  pub began : from ≤ pass.seen
  pub batch : Seen device f pass (λ S P. IsBatch P c.left c.counts.items (waits_in c.gathered))
  pub gone : c.gone ≡ 0
  pub some : c.counts.items ≢ []
  pub linked : (x : Wait) → In x (waits_in c.gathered) → IsPending device f pass x.key x.item
  pub pairs : ArePairs (waits_in c.gathered)
  pub left : Seen device f pass (λ S P. AreLeft from S P c.left)

-- a key is at work
abbrev pub IsKeyStage : Stage → Type 0
IsKeyStage (stage.Placing key items placing) = ⊤
IsKeyStage _ = ⊥

-- the least key is at work, and a map keeps the others; or none is left, and the pages are shifted
pub data HasNext (old new : Cleanup) : Type 0 where
  key : (key items : Vec ℕ Global) → GivesFirst old.gathered key.items items.items new.gathered
      → length new.gathered < 2 ^ 63
      → new ≡ record old { gathered = new.gathered; stage = stage.Placing key items at_root } → HasNext old new
  none : old.gathered ≡ [] → new ≡ record old { gathered = []; stage = stage.Shifting } → HasNext old new

-- How steps of a cleanup end that log nothing.
use Rattle.std.proofs.Common.{◌≡◌, ℕ, [], Err, arith}
use Rattle.disk_trait.specs.declared.device.Disk.{Ghosts as Disk}
use Rattle.buffer_frames.specs.Frames.{FramesValue}
use Rattle.buffer_frames.specs.Passes.{IsPassOf}
use Rattle.buffer_frames.specs.declared.pass.Pass.{Pass}
use Rattle.buffer_frames.proofs.AtHand.{none_held}
use Rattle.gin_place.specs.Causes.{Finds}
use Rattle.gin_place.specs.Faults.{FaultBy}
use Rattle.gin_place.specs.Holding.{ReadsOn}
use Rattle.gin_place.specs.Placing.{HasRight}
use Rattle.gin_place.specs.declared.error.PlaceError.{PlaceError}
use Rattle.gin_cleanup.specs.Cleaning.{IsCleaning}
use Rattle.gin_cleanup.specs.Going.{IsCause}
use Rattle.gin_cleanup.specs.Inner.Stepping.{StepEnds}
use Rattle.gin_cleanup.specs.declared.cleanup.Cleanup.{Cleanup}
use Rattle.gin_cleanup.proofs.Cleaned.{cleans_by}
use Rattle.gin_cleanup.proofs.Cleanings.{cleaning_still}

-- no page was held, and calls logged nothing
module _ {D : Type 0} (device : Disk D) (f g : FramesValue D) (p q : Pass) (of : IsPassOf f p) (right : HasRight p)
    (none : p.held ≡ 0) (reads : ReadsOn device f p g q) (c : Cleanup) where
  pub still : (from : ℕ) → IsCleaning device f p from c → IsCleaning device g q from c
  still from was =
      cleaning_still device f g p q [] (none_held device f p of none) of right reads from c was

  -- the cleanup is where it was, and the step is refused
  pub refused : {T : Type 0} (e : PlaceError) → q.held ≡ 0 → Finds device f p (IsCause device g e)
      → FaultBy device f g e → StepEnds {T = T} device f p g q c c (Err e)
  refused e free cause fault =
      let cleans = cleans_by device f g p q [] reads.works in
      record {
        cleaning = still;
        none_held = free;
        works = ([], omega arith, cleans);
        refused = cleans;
        lower = tt;
        cause = cause;
        fine = tt;
        fault = fault;
      }

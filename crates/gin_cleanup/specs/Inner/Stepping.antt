-- How a step of a cleanup ends.
use Rattle.std.specs.Prelude.{◌≡◌, ℕ, ◌≤◌, List, [], length, Result, IfErr, OnOk, OnErr}
use Rattle.disk_trait.specs.declared.device.Disk.{Ghosts as Disk}
use Rattle.buffer_frames.specs.Frames.{FramesValue}
use Rattle.buffer_frames.specs.declared.pass.Pass.{Pass}
use Rattle.gin_place.specs.Causes.{Finds}
use Rattle.gin_place.specs.Faults.{MetNoFault, FaultBy}
use Rattle.gin_place.specs.declared.error.PlaceError.{PlaceError}
use Rattle.gin_cleanup.specs.Cleaning.{IsCleaning}
use Rattle.gin_cleanup.specs.Going.{CleansOn, IsCause}
use Rattle.gin_cleanup.specs.Measure.{ComesNearer}
use Rattle.gin_cleanup.specs.declared.cleanup.Cleanup.{Cleanup}

-- The cleanup has gone on, and its end is nearer where the step is not refused. At most one record was logged, none
-- where it is refused, and no page is held; a refusal has its cause, and a fault is met exactly where DiskFault is
-- answered.
pub record StepEnds {T D : Type 0} (device : Disk D) (f : FramesValue D) (pass : Pass) (f' : FramesValue D)
    (pass' : Pass) (old new : Cleanup) (result : Result T PlaceError) : Type 0 where
  pub cleaning : (from : ℕ) → IsCleaning device f pass from old → IsCleaning device f' pass' from new
  pub none_held : pass'.held ≡ 0
  pub works : (kinds : List ℕ) × (length kinds ≤ 1) × CleansOn device f pass f' pass' kinds
  pub refused : OnErr result (CleansOn device f pass f' pass' [])
  pub lower : OnOk result (ComesNearer f f' old new)
  pub cause : IfErr result (λ e. Finds device f pass (IsCause device f' e))
  pub fine : OnOk result (MetNoFault device f f')
  pub fault : IfErr result (FaultBy device f f')

-- A look at the log that a scan takes.
use Rattle.std.specs.Prelude.{◌≡◌, List}
use Rattle.disk_trait.specs.declared.device.Disk.{Ghosts as Disk}
use Rattle.core_state.specs.Allowed.{Sheet}
use Rattle.buffer_frames.specs.Frames.{FramesValue}
use Rattle.buffer_frames.specs.LogCauses.{IsCalm}
use Rattle.buffer_frames.specs.Passes.{IsPassOf, IsHolding}
use Rattle.buffer_frames.specs.declared.pass.Pass.{Pass}
use Rattle.gin_scan.specs.Calls.{AddsNothing, KeepsWork, LieStill}

-- Nothing is logged or read, no write fails, and the pass has the snapshot and the pages that it had.
pub record LooksOn {D : Type 0} (device : Disk D) (old : FramesValue D) (pass : Pass) (new : FramesValue D)
    (pass' : Pass) : Type 0 where
  pub is_pass : IsPassOf new pass'
  pub holding : (held : List Sheet) → IsHolding device old pass held → IsHolding device new pass' held
  pub held : pass'.held ≡ pass.held
  pub holds : pass'.holds ≡ pass.holds
  pub pin : pass'.pin ≡ pass.pin
  pub pins : new.pins ≡ old.pins
  pub adds : AddsNothing device old new
  pub lying : LieStill old new
  pub keeps : KeepsWork pass pass'
  pub calm : IsCalm device old.journal new.journal

-- What a step asks and leaves, for the parts that it is made of.
use Rattle.std.specs.Prelude.{◌≡◌, ℕ, ◌<◌, ◌≤◌, Result, OnOk, IfErr}
use Rattle.disk_trait.specs.declared.device.Disk.{Ghosts as Disk}
use Rattle.core_state.specs.PageChoice.{IsLeast, AreBelow}
use Rattle.gin_opclass.specs.Class.{Meaning}
use Rattle.buffer_frames.specs.Frames.{FramesValue}
use Rattle.buffer_frames.specs.LogCauses.{HoldHasCause}
use Rattle.buffer_frames.specs.declared.frame_error.FrameError.{FrameError}
use Rattle.buffer_frames.specs.declared.pass.Pass.{Pass}
use Rattle.gin_scan.specs.Calls.{ReadsOn}
use Rattle.gin_scan.specs.Causes.{CannotStep, IsLawfulRefusal}
use Rattle.gin_scan.specs.Counting.{CountsOn}
use Rattle.gin_scan.specs.Reaching.{IsReached}
use Rattle.gin_scan.specs.Scanning.{IsScanning, AsksFor, Scanning, steps_left}
use Rattle.gin_scan.specs.declared.scan_core.ScanCore.{ScanCore}

module _ {D Q : Type 0} (device : Disk D) (M : Meaning Q) (q : Q) where
  -- what a step asks of a scan
  pub record MayStep (f : FramesValue D) (pass : Pass) (s : ScanCore) : Type 0 where
    pub scanning : IsScanning f pass s
    pub asks : AsksFor M q s
    pub walk : Scanning device M q f pass s

  -- what it leaves
  pub record HasStepped (f : FramesValue D) (pass : Pass) (s : ScanCore) (f' : FramesValue D) (pass' : Pass)
      (s' : ScanCore) : Type 0 where
    pub scanning : IsScanning f' pass' s'
    pub asks : AsksFor M q s'
    pub walk : Scanning device M q f' pass' s'
    pub lower : steps_left s' < steps_left s
    pub reached : IsReached M q f s s.stage → IsReached M q f' s' s'.stage
    pub counted : CountsOn s pass.holds s' pass'.holds

  -- What a step leaves that returns this: a page at most was read. Where it was taken, what it leaves of the scan;
  -- where it was refused, why.
  pub record IsStepOf {T : Type 0} (f : FramesValue D) (pass : Pass) (s : ScanCore) (f' : FramesValue D)
      (pass' : Pass) (s' : ScanCore) (result : Result T FrameError) : Type 0 where
    pub took : s'.took_pin ≡ s.took_pin
    pub stepped : OnOk result (HasStepped f pass s f' pass' s')
    pub reads : ReadsOn device f pass f' pass'
    pub fault : HoldHasCause device f.journal f'.journal result
    pub cause : IfErr result (CannotStep f s s.stage)
    pub lawful : IfErr result (IsLawfulRefusal device f)

-- no page more may be read of the list, and pages go no further now than when that was last asked
pub record IsFurthest {D : Type 0} (f : FramesValue D) (s : ScanCore) (left : ℕ) : Type 0 where
  pub none_left : left ≡ 0
  pub extent : ℕ
  pub is_extent : IsLeast (AreBelow f.journal.state) extent
  pub no_further : extent ≤ s.extent

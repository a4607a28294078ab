-- A scan and a task that take turns, each by a pass of its own.
use Rattle.std.specs.Prelude.{◌≡◌, ◌≤◌, ℕ, List, None, replicate, ⊤}
use Rattle.disk_trait.specs.declared.device.Disk.{Ghosts as Disk}
use Rattle.snap_pins.specs.declared.TheConstants.{PLACES}
use Rattle.buffer_frames.specs.Frames.{FramesValue}
use Rattle.buffer_frames.specs.Passes.{IsPassOf, IsWhole, IsRightFree}
use Rattle.buffer_frames.specs.declared.pass.Pass.{Pass}
use Rattle.gin_opclass.specs.Class.{meaning}
use Rattle.ts_match.specs.Meaning.{Holds}
use Rattle.ts_match.specs.Judging.{judged}
use Rattle.ts_match.specs.Class.{asked_of, reads_all}
use Rattle.gin_scan.specs.Scanning.{IsScanning, Scanning}
use Rattle.gin_scan.specs.TextScans.{IsFor}
use Rattle.gin_scan.specs.declared.scan.Scan.{Scan}
use Rattle.gin_place.specs.Placing.{HasRight}
use Rattle.gin_cleanup.specs.Cleaning.{IsCleaning}
use Rattle.gin_vacuum.specs.Sweeping.{IsSweeping}
use Rattle.gin_vacuum.specs.Freeing.{IsFreeing}
use Rattle.index_cases.specs.declared.upkeep.Stage.{Stage}
use Rattle.index_cases.specs.declared.upkeep.Stage.TheVariants as stage
use Rattle.index_cases.specs.declared.upkeep.Upkeep.{Upkeep}

-- the frames are as they were opened, when no snapshot is in use, and this is their pass
pub record AreFresh {D : Type 0} (f : FramesValue D) (pass : Pass) : Type 0 where
  pub is_pass : IsPassOf f pass
  pub whole : IsWhole f.journal pass
  pub free : IsRightFree f
  pub pins : f.pins ≡ replicate PLACES None
  pub none : pass.pin ≡ None
  pub held : pass.held ≡ 0

-- the pass scans, without a transaction or the right of maintenance, by all rooms but one
pub record Scans {D : Type 0} (device : Disk D) (f : FramesValue D) (pass : Pass) (scan : Scan) : Type 0 where
  pub scanning : IsScanning f pass scan.core
  pub query : IsFor scan.query.now scan
  pub walk : Scanning device (meaning asked_of reads_all Holds judged) scan.query.now f pass scan.core
  pub idle : (pass.xid ≡ None) × (pass.work ≡ None)
  pub room : pass.room ≡ 15

-- each scan goes on from the old frames to the new ones
abbrev pub LetScan : {D : Type 0} → Disk D → FramesValue D → FramesValue D → Type 0
LetScan device old new = (pass : Pass) (scan : Scan) → Scans device old pass scan → Scans device new pass scan

-- the snapshots in use are the same, and no less of the log is there, and flushed
pub record Grows {D : Type 0} (old new : FramesValue D) : Type 0 where
  pub pins : new.pins ≡ old.pins
  pub flushed : old.journal.flushed ≤ new.journal.flushed
  pub longer : old.journal.state.records ≤ new.journal.state.records

-- the pass may keep the index, without a snapshot or a transaction, by one room
pub record MayKeep {D : Type 0} (f : FramesValue D) (pass : Pass) : Type 0 where
  pub is_pass : IsPassOf f pass
  pub right : HasRight pass
  pub none : pass.held ≡ 0
  pub idle : (pass.pin ≡ None) × (pass.xid ≡ None)
  pub room : pass.room ≡ 1

-- how far a part of a task has come
abbrev pub IsAt : {D : Type 0} → Disk D → FramesValue D → Pass → List ℕ → Stage → Type 0
IsAt device f pass dead (stage.Deleting name) = ⊤
IsAt device f pass dead stage.Seeking = ⊤
IsAt device f pass dead (stage.Cleaning cleanup) = (from : ℕ) × IsCleaning device f pass from cleanup
IsAt device f pass dead (stage.Sweeping sweeping) = IsSweeping device f pass dead sweeping
IsAt device f pass dead (stage.Freeing freeing) = (began : ℕ) × IsFreeing device f pass began dead freeing
IsAt device f pass dead stage.Done = ⊤

-- The pass does this task, over a device that says nothing: so nothing is to be shown of its log.
pub record Keeps {D : Type 0} (device : Disk D) (f : FramesValue D) (pass : Pass) (task : Upkeep) : Type 0 where
  pub silent : device.tells → ⊥
  pub may : MayKeep f pass
  pub at : IsAt device f pass task.dead task.stage

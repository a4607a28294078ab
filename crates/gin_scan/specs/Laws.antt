-- What holds of all scans.
use Rattle.std.specs.Prelude.{◌≡◌, ℕ, List}
use Rattle.disk_trait.specs.declared.device.Disk.{Ghosts as Disk}
use Rattle.gin_opclass.specs.Class.{Meaning}
use Rattle.buffer_frames.specs.Frames.{FramesValue}
use Rattle.buffer_frames.specs.Passes.{IsPassOf, HasAdded}
use Rattle.buffer_frames.specs.declared.pass.Pass.{Pass}
use Rattle.gin_scan.specs.Scanning.{Scanning}
use Rattle.gin_scan.specs.declared.scan_core.ScanCore.{ScanCore}

-- a scan goes on as it was where records of any kinds were logged between two of its steps, and its
-- pass has the same snapshot
abbrev pub ScansGoOn : {D Q : Type 0} → Disk D → Meaning Q → Type 0
ScansGoOn {D} {Q} device M =
    (q : Q) (s : ScanCore) (old new : FramesValue D) (pass pass' : Pass) (kinds : List ℕ)
    → HasAdded device old new kinds → IsPassOf old pass → IsPassOf new pass' → pass'.pin ≡ pass.pin
    → Scanning device M q old pass s → Scanning device M q new pass' s

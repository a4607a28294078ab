-- Whether the stage is the last one.
use Rattle.std.proofs.Common.{refl}
use Rattle.gin_scan.proofs.scan_core.ScanCore.is_done.Goals as goal

pub returns-in-Done : goal.returns-in-Done
returns-in-Done c = ((λ t. c.in-Done.is), (λ e. refl))

pub returns-in_default : goal.returns-in_default
returns-in_default c = ((λ t. absurd (let z : ⊥ = cc in z)), (λ e. absurd (c.in_default.not-Done e)))

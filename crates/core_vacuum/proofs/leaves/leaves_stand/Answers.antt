use Rattle.core_vacuum.proofs.FirstLeaves.{leaves_hold}
use Rattle.core_vacuum.proofs.leaves.leaves_stand.Goals as goal

pub returns : goal.returns
returns c = leaves_hold

use Rattle.core_maintenance.proofs.Shifts.{shift_holds}
use Rattle.core_maintenance.proofs.keeping.shift_keeps.Goals as goal

pub returns : goal.returns
returns c = shift_holds

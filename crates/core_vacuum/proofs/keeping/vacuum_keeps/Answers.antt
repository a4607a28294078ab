use Rattle.core_vacuum.proofs.Kept.{vacuum_holds}
use Rattle.core_vacuum.proofs.keeping.vacuum_keeps.Goals as goal

pub returns : goal.returns
returns c = vacuum_holds

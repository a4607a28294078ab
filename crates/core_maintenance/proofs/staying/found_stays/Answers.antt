use Rattle.core_maintenance.proofs.Found.{found_holds, right_keeps_found}
use Rattle.core_maintenance.proofs.staying.found_stays.Goals as goal

pub returns-clause-records : goal.returns-clause-records
returns-clause-records c = found_holds

pub returns-clause-right : goal.returns-clause-right
returns-clause-right c = right_keeps_found

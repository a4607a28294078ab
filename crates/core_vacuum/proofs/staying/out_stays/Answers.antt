use Rattle.core_vacuum.proofs.OutStays.{out_holds, right_keeps_out}
use Rattle.core_vacuum.proofs.staying.out_stays.Goals as goal

pub returns-clause-records : goal.returns-clause-records
returns-clause-records c = out_holds

pub returns-clause-right : goal.returns-clause-right
returns-clause-right c = right_keeps_out

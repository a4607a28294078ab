use Rattle.core_maintenance.proofs.FreshRows.{fresh_holds, right_keeps_fresh}
use Rattle.core_maintenance.proofs.fresh.fresh_rows_hold.Goals as goal

pub returns-clause-records : goal.returns-clause-records
returns-clause-records c = fresh_holds

pub returns-clause-right : goal.returns-clause-right
returns-clause-right c = right_keeps_fresh

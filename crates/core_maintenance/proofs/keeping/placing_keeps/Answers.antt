use Rattle.core_maintenance.proofs.Pairs.{pairs_hold, placing_holds, history_holds}
use Rattle.core_maintenance.proofs.Lists.{line_holds, right_keeps_line, placing_keeps_list}
use Rattle.core_maintenance.proofs.keeping.placing_keeps.Goals as goal

pub returns-clause-placing : goal.returns-clause-placing
returns-clause-placing c = placing_holds

pub returns-clause-list : goal.returns-clause-list
returns-clause-list c = placing_keeps_list

pub returns-clause-pairs : goal.returns-clause-pairs
returns-clause-pairs c = pairs_hold

pub returns-clause-line : goal.returns-clause-line
returns-clause-line c = line_holds

pub returns-clause-right : goal.returns-clause-right
returns-clause-right c = right_keeps_line

pub returns-clause-history : goal.returns-clause-history
returns-clause-history c = history_holds

use Rattle.core_vacuum.proofs.DeadHeads.{dead_heads_hold, right_keeps_dead_heads, more_are_dead}
use Rattle.core_vacuum.proofs.heads.dead_heads_stay.Goals as goal

pub returns-clause-records : goal.returns-clause-records
returns-clause-records c = dead_heads_hold

pub returns-clause-right : goal.returns-clause-right
returns-clause-right c = right_keeps_dead_heads

pub returns-clause-more : goal.returns-clause-more
returns-clause-more c = more_are_dead

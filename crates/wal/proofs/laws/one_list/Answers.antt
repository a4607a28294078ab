use Rattle.wal.proofs.Unique.{unique, opens_unique}
use Rattle.wal.proofs.laws.one_list.Goals as goal

pub returns-clause-counts : goal.returns-clause-counts
returns-clause-counts c = unique

pub returns-clause-opens : goal.returns-clause-opens
returns-clause-opens c = opens_unique

use Rattle.wal.proofs.Whole.{no_foreign, whole}
use Rattle.wal.proofs.laws.never_refused.Goals as goal

pub returns-clause-foreign : goal.returns-clause-foreign
returns-clause-foreign c = no_foreign

pub returns-clause-broken : goal.returns-clause-broken
returns-clause-broken c = whole

-- Nothing is to be deleted.
use Rattle.engine.specs.Going.{Goes}
use Rattle.engine.proofs.db.Db.must_be_there.Goals as goal

pub returns-in_default-clause-goes : goal.returns-in_default-clause-goes
returns-in_default-clause-goes g c = Goes.stays

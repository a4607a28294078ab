use Rattle.ts_vector.proofs.OneList as law
use Rattle.ts_vector.proofs.laws.fault_has_one_place.Goals as goal

pub returns : goal.returns
returns c = law.fault_has_one_place

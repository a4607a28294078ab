use Rattle.ts_vector.proofs.OneList as law
use Rattle.ts_vector.proofs.laws.fault_is_outside.Goals as goal

pub returns : goal.returns
returns c = law.fault_is_outside

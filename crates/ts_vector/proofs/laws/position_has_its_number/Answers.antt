use Rattle.ts_vector.proofs.Numbers as law
use Rattle.ts_vector.proofs.laws.position_has_its_number.Goals as goal

pub returns : goal.returns
returns c = law.position_has_its_number

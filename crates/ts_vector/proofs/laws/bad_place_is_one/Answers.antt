use Rattle.ts_vector.proofs.Fields as law
use Rattle.ts_vector.proofs.laws.bad_place_is_one.Goals as goal

pub returns : goal.returns
returns c = law.bad_place_is_one

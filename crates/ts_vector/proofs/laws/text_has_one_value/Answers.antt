use Rattle.ts_vector.proofs.OneList as law
use Rattle.ts_vector.proofs.laws.text_has_one_value.Goals as goal

pub returns : goal.returns
returns c = law.text_has_one_value

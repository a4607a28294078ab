use Rattle.ts_vector.proofs.OneAnswer as law
use Rattle.ts_vector.proofs.laws.build_has_one_answer.Goals as goal

pub returns : goal.returns
returns c = law.build_has_one_answer

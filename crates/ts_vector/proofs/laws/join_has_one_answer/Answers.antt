use Rattle.ts_vector.proofs.OneAnswer as law
use Rattle.ts_vector.proofs.laws.join_has_one_answer.Goals as goal

pub returns : goal.returns
returns c = law.join_has_one_answer

use Rattle.ts_make.proofs.Made.{join_answer_one}
use Rattle.ts_make.proofs.laws.join_answer_is_one.Goals as goal

pub returns : goal.returns
returns c join known mapping text a b n m h k = join_answer_one join known mapping text a b n m h k

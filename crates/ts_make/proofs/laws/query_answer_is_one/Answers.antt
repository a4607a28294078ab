use Rattle.ts_make.proofs.Made.{query_answer_one}
use Rattle.ts_make.proofs.laws.query_answer_is_one.Goals as goal

pub returns : goal.returns
returns c known mapping text a b n m h k = query_answer_one known mapping text a b n m h k

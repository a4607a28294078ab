use Rattle.ts_websearch.proofs.Made.{web_answer_one}
use Rattle.ts_websearch.proofs.laws.web_answer_is_one.Goals as goal

pub returns : goal.returns
returns c known mapping text a b n m h k = web_answer_one known mapping text a b n m h k

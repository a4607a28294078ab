use Rattle.ts_query.proofs.Answer.{one_answer}
use Rattle.ts_query.proofs.laws.one_answer.Goals as goal

pub returns : goal.returns
returns c text a b n m h k = one_answer text a b n m h k

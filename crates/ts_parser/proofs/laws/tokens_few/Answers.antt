use Rattle.ts_parser.proofs.Covering.{tokens_few_lem}
use Rattle.ts_parser.proofs.laws.tokens_few.Goals as goal

pub returns : goal.returns
returns c = tokens_few_lem

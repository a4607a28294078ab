use Rattle.ts_parser.proofs.Cutting.{tokens_between_lem}
use Rattle.ts_parser.proofs.laws.tokens_between.Goals as goal

pub returns : goal.returns
returns c = tokens_between_lem

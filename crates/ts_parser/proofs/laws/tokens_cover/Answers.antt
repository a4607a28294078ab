use Rattle.ts_parser.proofs.Covering.{tokens_cover_lem}
use Rattle.ts_parser.proofs.laws.tokens_cover.Goals as goal

pub returns : goal.returns
returns c = tokens_cover_lem

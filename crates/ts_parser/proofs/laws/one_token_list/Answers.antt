use Rattle.ts_parser.proofs.Law.{one_token_list_lem}
use Rattle.ts_parser.proofs.laws.one_token_list.Goals as goal

pub returns : goal.returns
returns c = one_token_list_lem

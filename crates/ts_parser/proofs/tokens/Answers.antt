use Rattle.std.proofs.Common.{◌∙◌, ap}
use Rattle.ts_parser.specs.TokensOf.{tokens_of}
use Rattle.ts_parser.proofs.Cutting.{tokens_between_lem}
use Rattle.ts_parser.proofs.Law.{one_token_list_lem}
use Rattle.ts_parser.proofs.tokens.Goals as goal

pub returns-clause-list : goal.returns-clause-list
returns-clause-list c =
    (one_token_list_lem c.args.text.now c.new.result).1 (c.new.ensures ∙ ap tokens_of c.as_bytes.ensures.value)

pub returns-clause-between : goal.returns-clause-between
returns-clause-between c = tokens_between_lem c.args.text.now c.new.result c.utf8.text (returns-clause-list c)

use Rattle.std.proofs.Common.{refl}
use Rattle.std.specs.String.{string_bytes}
use Rattle.ts_parser.specs.TokensOf.{tokens_of}
use Rattle.ts_parser.proofs.Law.{one_token_list_lem}
use Rattle.shell_script.specs.StatementView.{doc as shown}
use Rattle.shell_run.proofs.answers.answer.Goals as goal

pub returns-in-Update-clause-answered : goal.returns-in-Update-clause-answered
returns-in-Update-clause-answered g c =
    rw c.in-Update.is (c.update.ensures.answered (shown c.in-Update.doc) refl c.args.line)

pub returns-in-Parse-clause-answered : goal.returns-in-Parse-clause-answered
returns-in-Parse-clause-answered g c =
    let text = string_bytes c.in-Parse.text in
    rw c.in-Parse.is ((refl, refl), (one_token_list_lem text (tokens_of text)).1 refl)

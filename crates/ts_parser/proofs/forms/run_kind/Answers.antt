use Rattle.std.proofs.Common.{sym, ◌∙◌}
use Rattle.ts_parser.proofs.KindLaws.{ascii_run}
use Rattle.ts_parser.proofs.forms.run_kind.Goals as goal

pub returns-then-all_ascii_letters : goal.returns-then-all_ascii_letters
returns-then-all_ascii_letters c =
    sym (ascii_run c.args.run.now c.requires (sym c.all_ascii_letters.ensures ∙ c.if-all_ascii_letters.true))

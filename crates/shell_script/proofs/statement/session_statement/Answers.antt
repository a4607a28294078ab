use Rattle.std.proofs.Common.{refl}
use Rattle.shell_script.proofs.Saying.{no_update}
use Rattle.shell_script.proofs.statement.session_statement.Goals as goal

pub returns-then-is_word-clause-none : goal.returns-then-is_word-clause-none
returns-then-is_word-clause-none c =
    no_update c.args.first.now c.args.rest.now c.update_of.result (c.if-is_word.ensures.0 refl) c.update_of.ensures.none

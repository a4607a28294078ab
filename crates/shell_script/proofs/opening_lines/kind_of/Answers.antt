use Rattle.shell_script.proofs.FirstLines.{no_kind_word}
use Rattle.shell_script.proofs.opening_lines.kind_of.Goals as goal

pub returns-in_default-clause-none : goal.returns-in_default-clause-none
returns-in_default-clause-none c = no_kind_word c.args.text.now c.in_default.ensures.none

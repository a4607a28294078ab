use Rattle.shell_script.proofs.Made.{no_weight_word}
use Rattle.shell_script.proofs.sources.front_weight.Goals as goal

pub returns-in_default-clause-first : goal.returns-in_default-clause-first
returns-in_default-clause-first c = no_weight_word c.args.text.now c.in_default.ensures.none

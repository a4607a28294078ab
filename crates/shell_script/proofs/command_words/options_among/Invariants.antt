use Rattle.shell_script.proofs.WordCuts.{NoneBelow}
use Rattle.shell_script.proofs.command_words.options_among.Given as goal

abbrev pub invariant-loop-at : goal.invariant-loop-at
invariant-loop-at l = NoneBelow l.words l.at

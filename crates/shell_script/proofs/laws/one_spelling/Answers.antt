use Rattle.shell_script.proofs.Spelling.{one_spelling}
use Rattle.shell_script.proofs.laws.one_spelling.Goals as goal

pub returns : goal.returns
returns c = one_spelling

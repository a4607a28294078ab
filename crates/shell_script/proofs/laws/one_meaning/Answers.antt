use Rattle.shell_script.proofs.Meaning.{one_meaning}
use Rattle.shell_script.proofs.laws.one_meaning.Goals as goal

pub returns : goal.returns
returns c = one_meaning

use Rattle.shell_script.proofs.StepsLaw.{one_reading}
use Rattle.shell_script.proofs.laws.one_reading.Goals as goal

pub returns : goal.returns
returns c = one_reading

use Rattle.std.proofs.Common.{false, sym, subst}
use Rattle.shell_script.specs.Lines.{script_lines}
use Rattle.shell_script.specs.Steps.{AreSteps}
use Rattle.shell_script.proofs.StepsLaw.{sound}
use Rattle.shell_script.proofs.steps.Goals as goal

pub returns-clause-list : goal.returns-clause-list
returns-clause-list c = subst (AreSteps false (script_lines c.args.text.now)) (sym c.new.ensures)
    (sound false (script_lines c.args.text.now))

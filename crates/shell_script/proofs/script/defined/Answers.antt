use Rattle.std.proofs.Common.{◌+◌, ◌∷◌, ◌∙◌, false, List, ap}
use Rattle.std.specs.Str.Lines.{lines}
use Rattle.shell_script.specs.Lines.{Line, lines_from}
use Rattle.shell_script.specs.Steps.{definition}
use Rattle.shell_script.specs.StepsOf.{steps_from}
use Rattle.shell_script.specs.StepView.{line as shown}
use Rattle.shell_script.proofs.Bodies.{cut_steps, stray_steps}
use Rattle.shell_script.proofs.script.defined.Goals as goal

pub returns-in-Some : goal.returns-in-Some
returns-in-Some c = λ ls e.
    let first = shown c.args.line in
    let number = c.args.line.number + 1 in
    let body = lines c.in-Some.cut.body.now in
    let behind = lines c.in-Some.cut.behind.now in
    ap (λ (z : List Line). definition first z
    ∷ steps_from 0 false (lines_from (number + c.in-Some.cut.count + 1) behind)) c.new.ensures
    ∙ cut_steps number c.in-Some.cut.count first ls
    (lines c.args.rest.now) body behind e c.in-Some.ensures.some c.in-Some.ensures.count

pub returns-in-None : goal.returns-in-None
returns-in-None c =
    λ ls e. stray_steps (c.args.line.number + 1) (shown c.args.line) ls (lines c.args.rest.now) e c.in-None.ensures.none

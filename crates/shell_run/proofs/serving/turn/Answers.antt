use Rattle.std.proofs.Common.{refl}
use Rattle.shell_script.specs.Steps.{definition, stray}
use Rattle.shell_script.specs.StepView.{line as shown}
use Rattle.shell_script.specs.OpeningLineView.{opening_line as opening_line_of}
use Rattle.shell_script.specs.ReplyView.{reply}
use Rattle.shell_run.proofs.Turning.{turned_line, turned_nothing, turned_definition}
use Rattle.shell_run.proofs.serving.turn.Goals as goal

pub returns-in_ok-said-in-Single-clause-turned : goal.returns-in_ok-said-in-Single-clause-turned
returns-in_ok-said-in-Single-clause-turned g c =
    rw c.in-Single.is (turned_line g.D.Disk (shown c.in-Single.line) c.args.state.now
    _ c.in_ok-said-in-Single.said.session c.in_ok-said-in-Single.said.statement
    (reply c.answer-reply.result) c.in_ok-said-in-Single.ensures c.answer-reply.ensures.answered refl)

pub returns-in-Some-clause-turned : goal.returns-in-Some-clause-turned
returns-in-Some-clause-turned g c =
    rw c.in-Definition.is (turned_definition g.D.Disk
    (shown c.in-Definition.line) c.in-Definition.body c.args.state.now _ (opening_line_of c.in-Some.head)
    (reply c.define.result) c.in-Some.ensures.some (refl, refl) c.define.ensures.answered c.define.ensures.becomes)

pub returns-in-None-clause-turned : goal.returns-in-None-clause-turned
returns-in-None-clause-turned g c = rw c.in-Definition.is (turned_nothing g.D.Disk
    (definition (shown c.in-Definition.line) c.in-Definition.body) c.args.state.now (refl, c.in-None.ensures.none))

pub returns-in-Stray-clause-turned : goal.returns-in-Stray-clause-turned
returns-in-Stray-clause-turned g c =
    rw c.in-Stray.is (turned_nothing g.D.Disk (stray (shown c.in-Stray.line)) c.args.state.now (refl, refl))

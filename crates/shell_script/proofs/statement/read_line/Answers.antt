use Rattle.std.proofs.Common.{ap}
use Rattle.shell_script.specs.StatementView.{statement}
use Rattle.shell_script.proofs.Front.{no_first_word}
use Rattle.shell_script.proofs.FirstTokens.{said_line, said_behind, no_word_says, says_nothing, says_statement}
use Rattle.shell_script.proofs.statement.read_line.Goals as goal

pub returns-in_default : goal.returns-in_default
returns-in_default c =
    let read = c.invalid in
    says_nothing c.args.line.now read.result.session (statement read.result.statement) read.ensures.session
    (ap statement read.ensures.statement)
    (no_word_says c.args.line.now (no_first_word c.args.line.now c.in_default.ensures.none))

pub returns-in-Some-2 : goal.returns-in-Some-2
returns-in-Some-2 c =
    let line = c.args.line.now in
    let found = rw c.in-Some-2.is at c.in_ok-session.ensures.some in
    says_statement line c.in-Some-2.session (statement c.in-Some-2.statement)
    (said_line line c.in-Some.first.now c.in-Some.rest.now c.in-Some-2.session
    (statement c.in-Some-2.statement) c.in-Some.ensures.some found)

pub returns-in-None : goal.returns-in-None
returns-in-None c =
    let line = c.args.line.now in
    let read = c.invalid-in-None in
    let none = rw c.in-None.is at c.in_ok-session.ensures.none in
    says_nothing line read.result.session (statement read.result.statement) read.ensures.session
    (ap statement read.ensures.statement)
    (λ s a k. none s a (said_behind line c.in-Some.first.now c.in-Some.rest.now s a c.in-Some.ensures.some k))

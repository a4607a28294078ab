use Rattle.shell_run.proofs.Taking.{LinesTaken}
use Rattle.shell_run.proofs.body_lines.take_lines.Given as goal

abbrev pub invariant-loop-line : goal.invariant-loop-line
invariant-loop-line g l =
    LinesTaken g.T.FromLines.takes g.T.FromLines.refuses l.fn.body l.line-iterator l.fn.made l.made

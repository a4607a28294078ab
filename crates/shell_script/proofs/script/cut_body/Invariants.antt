use Rattle.std.proofs.Common.{◌+◌, ◌≤◌, length}
use Rattle.shell_script.proofs.Bodies.{Past}
use Rattle.shell_script.proofs.script.cut_body.Given as goal

abbrev pub invariant-loop-line : goal.invariant-loop-line
invariant-loop-line l = Past l.text l.behind l.count × (l.count + length l.behind ≤ length l.text)

abbrev pub decreases-loop-line : goal.decreases-loop-line
decreases-loop-line l = length l.behind

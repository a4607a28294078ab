use Rattle.std.proofs.Common.{◌≡◌, ◌+◌, ◌≤◌, Bool, length}
use Rattle.std.specs.Str.Lines.{lines}
use Rattle.shell_script.specs.Lines.{lines_from}
use Rattle.shell_script.specs.StepsOf.{steps_from}
use Rattle.shell_script.proofs.script.counted_line.Given as goal

abbrev pub invariant-loop-bytes : goal.invariant-loop-bytes
invariant-loop-bytes l =
    ((w : Bool)
    → steps_from 0 w (lines_from l.fn.from (lines l.text)) ≡ steps_from 0 w (lines_from l.number (lines l.rest)))
    × (l.number + length l.rest ≤ l.fn.from + length l.text)

abbrev pub decreases-loop-bytes : goal.decreases-loop-bytes
decreases-loop-bytes l = length l.rest

use Rattle.std.proofs.Common.{map, drop}
use Rattle.ts_base.specs.Vectors.{Vector}
use Rattle.shell_script.specs.Replies.{Refusal}
use Rattle.shell_run.specs.Values.{IsValueOf, ExprFails, IsJoinedOf, OthersFail}
use Rattle.shell_script.specs.StatementView.{part, expr}
use Rattle.shell_run.proofs.values.expr_value.Given as goal

abbrev pub invariant-loop-other : goal.invariant-loop-other
invariant-loop-other l =
    ((x : Vector) → IsJoinedOf l.configs l.value (map part (drop l.other-index l.other-items)) x
    → IsValueOf l.configs (expr l.from) x)
    × ((why : Refusal) → OthersFail l.configs l.value (map part (drop l.other-index l.other-items)) why
    → ExprFails l.configs (expr l.from) why)

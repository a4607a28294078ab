use Rattle.std.proofs.Common.{◌+◌, ◌*◌, ◌≡◌, Some, length}
use Rattle.ts_query.specs.Queries.{Tree}
use Rattle.ts_query.specs.Postfix.{nodes_for}
use Rattle.ts_query.proofs.Backwards.{Printing}
use Rattle.ts_query.proofs.print.parts_back.Given as goal

abbrev pub invariant-loop-task : goal.invariant-loop-task
invariant-loop-task l =
    (t : Tree) → l.nodes ≡ nodes_for (Some t) → Printing t l.nodes l.left l.tasks.items l.pieces.items

abbrev pub decreases-loop-task : goal.decreases-loop-task
decreases-loop-task l = l.left * 6 + length l.tasks.items

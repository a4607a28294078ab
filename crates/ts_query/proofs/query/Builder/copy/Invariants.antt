use Rattle.std.proofs.Common.{drop}
use Rattle.ts_query.proofs.Built.{Copied}
use Rattle.ts_query.proofs.query.Builder.copy.Given as goal

abbrev pub invariant-loop-node : goal.invariant-loop-node
invariant-loop-node l = Copied l.query l.initial.self l.self l.next (drop l.node-index l.node-items)

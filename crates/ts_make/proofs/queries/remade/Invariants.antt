use Rattle.std.proofs.Common.{drop}
use Rattle.ts_make.proofs.Remaking.{Remaking}
use Rattle.ts_make.proofs.queries.remade.Given as goal

abbrev pub invariant-loop-node : goal.invariant-loop-node
invariant-loop-node l =
    Remaking l.configs l.config l.query l.maker l.next (drop l.node-index l.node-items)

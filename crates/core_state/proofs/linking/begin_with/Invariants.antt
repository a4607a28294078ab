use Rattle.std.proofs.Common.{drop}
use Rattle.std.specs.Prelude.{◌↔◌}
use Rattle.core_state.specs.Inner.PendingRows.{BeginWith}
use Rattle.core_state.proofs.linking.begin_with.Given as goal

abbrev pub invariant-loop-k : goal.invariant-loop-k
invariant-loop-k l = BeginWith l.rows l.front ↔ BeginWith (drop l.k l.rows) (drop l.k l.front)

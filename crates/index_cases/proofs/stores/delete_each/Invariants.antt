use Rattle.std.proofs.Common.{◌≡◌}
use Rattle.engine.specs.Answers.{IsSession}
use Rattle.index_cases.proofs.stores.delete_each.Given as goal

abbrev pub invariant-loop-name : goal.invariant-loop-name
invariant-loop-name l = record {
  session : IsSession l.store l.pass;
  room : l.pass.room ≡ l.fn.pass.room;
}

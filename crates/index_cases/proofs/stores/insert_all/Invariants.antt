use Rattle.std.proofs.Common.{◌≡◌}
use Rattle.engine.specs.Answers.{IsSession}
use Rattle.index_cases.proofs.stores.insert_all.Given as goal

abbrev pub invariant-loop : goal.invariant-loop
invariant-loop l = record {
  session : IsSession l.store l.pass;
  room : l.pass.room ≡ l.fn.pass.room;
}

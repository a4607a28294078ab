use Rattle.std.specs.Prelude.{◌≡◌}
use Rattle.engine.specs.Answers.{IsSession}
use Rattle.shell_cases.proofs.calls.follow.Given as goal

abbrev pub invariant-loop-row : goal.invariant-loop-row
invariant-loop-row g l = record {
  first : IsSession l.store l.pass;
  second : IsSession l.store l.other;
  rooms : (l.pass.room ≡ l.fn.pass.room) × (l.other.room ≡ l.fn.other.room);
}

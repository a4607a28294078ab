use Rattle.wal.specs.Waiting.{IsReadToEnd}
use Rattle.store_cases.proofs.log_tests.follow.Given as goal

abbrev pub invariant-loop-row : goal.invariant-loop-row
invariant-loop-row g l = IsReadToEnd l.wal

use Rattle.std.proofs.Common.{ℕ}
use Rattle.gin_cleanup.specs.Cleaning.{IsCleaning}
use Rattle.index_cases.specs.Working.{Works}
use Rattle.index_cases.proofs.cleaning.step_all.Given as goal

abbrev pub invariant-loop : goal.invariant-loop
invariant-loop g l = record {
  working : Works l.frames l.pass 16;
  cleaning : (from : ℕ) × IsCleaning g.D.Disk l.frames l.pass from l.cleanup;
}

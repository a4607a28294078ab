use Rattle.std.proofs.Common.{◌≡◌, ℕ, List}
use Rattle.gin_place.specs.Faults.{MetNoFault}
use Rattle.gin_cleanup.specs.Cleaning.{IsCleaning}
use Rattle.engine.specs.Inner.Cleaned.{CleansThrough}
use Rattle.engine.proofs.cleaning.step_to_end.Given as goal

abbrev pub invariant-loop : goal.invariant-loop
invariant-loop g l = record {
  through : (kinds : List ℕ) × CleansThrough g.D.Disk l.fn.frames l.fn.pass l.frames l.pass kinds;
  work : l.pass.work ≡ l.fn.pass.work;
  none_held : l.pass.held ≡ 0;
  cleaning : (from : ℕ) → IsCleaning g.D.Disk l.fn.frames l.fn.pass from l.fn.cleanup
      → IsCleaning g.D.Disk l.frames l.pass from l.cleanup;
  met : MetNoFault g.D.Disk l.fn.frames l.frames;
}

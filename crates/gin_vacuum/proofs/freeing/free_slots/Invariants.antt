use Rattle.std.proofs.Common.{◌≡◌, ℕ, List}
use Rattle.std.specs.List.{AllByRecursion}
use Rattle.gin_place.specs.Faults.{MetNoFault}
use Rattle.gin_vacuum.specs.Going.{VacuumsOn}
use Rattle.gin_vacuum.specs.Freeing.{IsFreeing, IsFreeKind}
use Rattle.gin_vacuum.proofs.freeing.free_slots.Given as goal

abbrev pub invariant-loop : goal.invariant-loop
invariant-loop g l = record {
  works : (kinds : List ℕ) × AllByRecursion IsFreeKind kinds
      × VacuumsOn g.D.Disk l.fn.frames l.fn.pass l.frames l.pass kinds;
  none_held : l.pass.held ≡ 0;
  freeing : IsFreeing g.D.Disk l.frames l.pass l.fn.pass.seen l.dead l.freeing;
  met : MetNoFault g.D.Disk l.fn.frames l.frames;
}

use Rattle.std.proofs.Common.{◌≡◌}
use Rattle.gin_place.specs.Faults.{MetNoFault}
use Rattle.gin_place.specs.Holding.{ReadsOn}
use Rattle.gin_vacuum.specs.Inner.Unlinked.{IsWalk}
use Rattle.gin_vacuum.proofs.unlinked.without_rows.Given as goal

abbrev pub invariant-loop-walk : goal.invariant-loop-walk
invariant-loop-walk g l = record {
  reads : ReadsOn g.D.Disk l.fn.frames l.fn.pass l.frames l.pass;
  none_held : l.pass.held ≡ 0;
  fine : MetNoFault g.D.Disk l.fn.frames l.frames;
  walk : IsWalk g.D.Disk l.frames l.pass l.fn.pass.seen l.fn.pass.floor l.fn.dead l.walk;
}

abbrev pub decreases-loop-walk : goal.decreases-loop-walk
decreases-loop-walk g l = l.walk.left

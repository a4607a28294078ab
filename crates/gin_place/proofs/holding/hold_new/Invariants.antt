use Rattle.gin_place.specs.Faults.{MetNoFault}
use Rattle.gin_place.specs.Holding.{ReadsOn, HoldsNoMore}
use Rattle.gin_place.proofs.holding.hold_new.Given as goal

abbrev pub invariant-loop : goal.invariant-loop
invariant-loop g l = record {
  reads : ReadsOn g.D.Disk l.fn.frames l.fn.pass l.frames l.pass;
  no_more : HoldsNoMore g.D.Disk l.fn.frames l.fn.pass l.frames l.pass;
  fine : MetNoFault g.D.Disk l.fn.frames l.frames;
}

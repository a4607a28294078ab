use Rattle.std.proofs.Common.{◌≡◌, suc, false, cond}
use Rattle.gin_place.specs.Faults.{MetNoFault}
use Rattle.gin_vacuum.specs.Sweeping.{IsSweeping}
use Rattle.gin_vacuum.specs.Stepping.{steps_left}
use Rattle.gin_vacuum.specs.declared.sweeping.Stage.TheVariants as stage
use Rattle.gin_vacuum.proofs.SweepEnds.{Swept}
use Rattle.gin_vacuum.proofs.sweeping.sweep.Given as goal

abbrev pub invariant-loop-more : goal.invariant-loop-more
invariant-loop-more g l = record {
  works : Swept g.D.Disk l.fn.frames l.fn.pass l.frames l.pass;
  none_held : l.pass.held ≡ 0;
  fine : MetNoFault g.D.Disk l.fn.frames l.frames;
  sweeping : IsSweeping g.D.Disk l.frames l.pass l.dead l.sweeping;
  ended : l.more ≡ false → l.sweeping.stage ≡ stage.Done;
}

abbrev pub decreases-loop-more : goal.decreases-loop-more
decreases-loop-more g l = cond l.more (suc (steps_left l.sweeping)) 0

use Rattle.std.proofs.Common.{◌≡◌, ℕ, suc, false, cond}
use Rattle.std.specs.Prelude.{None}
use Rattle.gin_place.specs.Faults.{MetNoFault}
use Rattle.gin_place.specs.Holding.{ReadsOn}
use Rattle.gin_vacuum.specs.Finding.{IsFloor, IsFinding, pages_left}
use Rattle.gin_vacuum.proofs.finding.find_dead.Given as goal

abbrev pub invariant-loop-more : goal.invariant-loop-more
invariant-loop-more g l = record {
  reads : ReadsOn g.D.Disk l.fn.frames l.fn.pass l.frames l.pass;
  none_held : l.pass.held ≡ 0;
  fine : MetNoFault g.D.Disk l.fn.frames l.frames;
  finding : (floor : ℕ) → IsFloor l.fn.frames floor
      → IsFinding g.D.Disk l.frames l.pass l.fn.pass.seen floor l.finding;
  ended : l.more ≡ false → l.finding.next ≡ None;
}

abbrev pub decreases-loop-more : goal.decreases-loop-more
decreases-loop-more g l = cond l.more (suc (pages_left l.finding)) 0

use Rattle.core_maintenance.proofs.Found.{right_keeps_found}
use Rattle.gin_place.proofs.Running.{calm_goes}
use Rattle.gin_place.proofs.Carrying.{reads_by}
use Rattle.gin_place.proofs.logging.release.Goals as goal

pub release-requires : goal.release-requires
release-requires g c = record { pass = c.requires.pass; holding = c.requires.holding }

pub returns : goal.returns
returns g c =
    let e = c.release.ensures in
    record {
      reads = reads_by g.D.Disk right_keeps_found c.args.frames.now c.release.new.self c.args.pass.now
          c.release.new.pass c.requires.pass c.requires.right e.added e.sees_on e.rises e.pass e.same.0 e.same.1
          e.same.2 e.right.0 e.pins (calm_goes g.D.Disk e.calm e.state e.added e.runs_on e.begins);
      holding = e.holding;
      faults = (e.calm).later;
      down = (e.calm).down;
      calm = e.calm;
      at_rest = e.at_rest;
    }

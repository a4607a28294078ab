-- The snapshot is given up, if the scan took it.
use Rattle.gin_scan.proofs.Ended.{ends_still, ends_unpinned}
use Rattle.gin_scan.proofs.scan_core.ScanCore.give_up.Goals as goal

pub returns-then-self : goal.returns-then-self
returns-then-self g c =
    let u = c.unpin.ensures in record {
      ends = ends_unpinned g.D.Disk c.args.self.now c.args.frames.now c.unpin.new.self c.args.pass.now c.unpin.new.pass
          c.if-self.true c.requires.held u.pass u.none u.pins u.keeps;
    }

pub returns-else-self : goal.returns-else-self
returns-else-self g c = record {
  ends = ends_still g.D.Disk c.args.self.now c.args.frames.now c.args.pass.now c.if-self.false c.requires.pass
      c.requires.held;
}

-- The page is given back, and what follows is read next.
use Rattle.std.proofs.Common.{refl, []}
use Rattle.std.proofs.lemmas.Result.{err_from_is_err_and}
use Rattle.gin_scan.specs.declared.scan_core.ScanCore.{ScanCore}
use Rattle.gin_scan.proofs.ReadCalls.{gives_back, turned_to, turned_off}
use Rattle.gin_scan.proofs.scan_core.ScanCore.leave.Goals as goal

pub release-requires : goal.release-requires
release-requires g c = record { pass = c.requires.pass; holding = ([], c.requires.holding) }

pub returns-in_err-self : goal.returns-in_err-self
returns-in_err-self g c =
    let p = err_from_is_err_and c.from_residual.result c.from_residual.ensures.1 in
    let e = c.release.ensures in
    let s = c.args.self.now in
    let new : ScanCore = record s { pages_read = c.saturating_add-self.result } in record {
      back = gives_back g.D.Disk c.args.frames.now c.release.new.self c.args.pass.now c.release.new.pass c.args.held
          e.pass
          (e.holding [] c.requires.holding) e.added e.rises e.same e.right.0 e.runs_on e.state e.lies e.others e.calm
          e.begins e.pins e.holds;
      turns = turned_off c.args.next s new c.from_residual.result c.in_err-self.field-0.0 p.0 c.in_err-self.was p.1 p.2
          refl;
    }

pub returns : goal.returns
returns g c =
    let e = c.release.ensures in record {
      back = gives_back g.D.Disk c.args.frames.now c.release.new.self c.args.pass.now c.release.new.pass c.args.held
          e.pass
          (e.holding [] c.requires.holding) e.added e.rises e.same e.right.0 e.runs_on e.state e.lies e.others e.calm
          e.begins e.pins e.holds;
      turns = turned_to c.args.next c.in_ok-self.field-0 c.args.self.now c.saturating_add-self.result c.in_ok-self.was
          c.saturating_add-self.ensures;
    }

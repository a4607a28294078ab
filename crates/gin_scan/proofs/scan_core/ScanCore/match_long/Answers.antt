-- A long vector of which all parts were read is matched.
use Rattle.std.proofs.Common.{refl, ◌∙◌, arith}
use Rattle.std.proofs.lemmas.Result.{err_from_is_err_and}
use Rattle.buffer_frames.specs.declared.frame_error.FrameError.TheVariants.{OutOfMemory}
use Rattle.gin_scan.specs.declared.stage.Stage.TheVariants as stage
use Rattle.gin_scan.proofs.ListCauses.{step_cause}
use Rattle.gin_scan.proofs.LongBegun.{long_took}
use Rattle.gin_scan.proofs.PartsCalls.{match_stepped}
use Rattle.gin_scan.proofs.ReadCalls.{still_reads, still_calm}
use Rattle.gin_scan.proofs.StepsOf.{goes, lacks}
use Rattle.gin_scan.proofs.scan_core.ScanCore.match_long.Goals as goal

pub returns-in_err-take_long : goal.returns-in_err-take_long
returns-in_err-take_long g c =
    let p = err_from_is_err_and c.from_residual.result c.from_residual.ensures.1 in
    let is = c.requires.may.scanning in
    let f = c.args.frames.now in
    let s = c.args.self.now in
    let at = c.requires.stage in record {
      serves = c.take_long.ensures.serves;
      is_step = lacks g.D.Disk _ c.args.query.now f c.args.pass.now s f c.args.pass.now c.take_long.new.self
          c.from_residual.result p.0 p.1 p.2 c.take_long.ensures.took
          (still_reads g.D.Disk f c.args.pass.now is.is_pass is.held) (still_calm g.D.Disk f.journal)
          (step_cause f s (stage.Parts c.args.at at.0 at.1) OutOfMemory at.2 (tt, λ z. refl));
    }

pub returns : goal.returns
returns g c =
    let is = c.requires.may.scanning in
    let f = c.args.frames.now in
    let s = c.args.self.now in
    let at = c.requires.stage in
    let mid = c.take_long.new.self in
    let new = c.begin_long.new.self in record {
      serves = c.take_long.ensures.serves;
      is_step = goes g.D.Disk _ c.args.query.now f c.args.pass.now s f c.args.pass.now new _
          (long_took mid new _ c.begin_long.ensures ∙ c.take_long.ensures.took)
          (match_stepped g.D.Disk _ c.args.query.now f c.args.pass.now s c.requires.may c.args.at at.0 at.1 at.2 mid
          new _
          (omega arith) at.3 c.in_ok-take_long.ensures.taken c.begin_long.ensures)
          (still_reads g.D.Disk f c.args.pass.now is.is_pass is.held) (still_calm g.D.Disk f.journal);
    }

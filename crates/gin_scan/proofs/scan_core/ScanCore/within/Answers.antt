-- A scan begins in a snapshot that is in use, or is refused.
use Rattle.std.proofs.Common.{refl, sym, ap, subst, ◌∙◌}
use Rattle.std.proofs.lemmas.Result.{err_from_is_err_and}
use Rattle.buffer_frames.specs.Passes.{pin_in}
use Rattle.gin_opclass.specs.Class.{meaning}
use Rattle.gin_scan.specs.Causes.{CannotBegin}
use Rattle.gin_scan.proofs.BegunScans.{begun, begun_with, begun_pass, begun_reached, begun_asks, begun_counted}
use Rattle.gin_scan.proofs.ListCalls.{look_begins}
use Rattle.gin_scan.proofs.scan_core.ScanCore.within.Goals as goal

pub returns-in_err-scan : goal.returns-in_err-scan
returns-in_err-scan g c =
    let p = err_from_is_err_and c.from_residual.result c.from_residual.ensures.1 in
    let l = c.unread.ensures.looks in
    rw p.1 (record {
      scanning = tt;
      asks = tt;
      walk = tt;
      reached = tt;
      took = tt;
      pin = l.pin;
      pins = l.pins;
      counted = tt;
      reads = look_begins g.D.Disk c.args.frames.now c.unread.new.frames c.args.pass.now c.unread.new.pass
          c.requires.held l;
      cause = subst (CannotBegin c.args.frames.now) (sym p.2) c.in_err-scan.ensures.cause;
    })

pub returns : goal.returns
returns g c =
    let l = c.unread.ensures.looks in
    let f = c.unread.new.frames in
    let s = c.in_ok-scan.scan in
    let b = begun_with f f c.args.keys s c.args.commits s.took_pin refl c.in_ok-scan.ensures.begun in record {
      scanning = begun_pass f c.args.keys _ b c.unread.new.pass c.requires.taken.0 l.is_pass
          (l.held ∙ c.requires.held) (ap pin_in l.pin ∙ c.requires.taken.1) c.requires.taken.2;
      asks = begun_asks f c.args.keys s c.in_ok-scan.ensures.begun;
      walk = λ q. begun f c.args.keys _ b g.D.Disk _ q c.unread.new.pass l.is_pass;
      reached = λ q. begun_reached f c.args.keys _ b
          (meaning g.W.Meaning.asked g.W.Meaning.all g.W.Meaning.satisfies g.W.Meaning.judged) q;
      took = c.in_ok-scan.ensures.took;
      pin = l.pin;
      pins = l.pins;
      counted = begun_counted f c.args.keys _ b c.args.pass.now.holds c.unread.new.pass.holds l.holds;
      reads = look_begins g.D.Disk c.args.frames.now f c.args.pass.now c.unread.new.pass c.requires.held l;
      cause = tt;
    }

-- A scan begins, or is refused.
use Rattle.std.proofs.Common.{◌≡◌, true, refl, sym, ap, subst, subst₂, ◌∙◌}
use Rattle.std.specs.Prelude.{Err}
use Rattle.std.proofs.lemmas.Result.{err_from_is_err_and}
use Rattle.buffer_frames.specs.Frames.{FramesValue}
use Rattle.buffer_frames.specs.Passes.{pin_in}
use Rattle.buffer_frames.specs.declared.frame_error.FrameError.TheVariants.{Down}
use Rattle.buffer_frames.specs.declared.pass.Pass.{Pass}
use Rattle.gin_opclass.specs.Class.{meaning}
use Rattle.gin_scan.specs.Calls.{BeginsReading}
use Rattle.gin_scan.specs.Causes.{CannotBegin}
use Rattle.gin_scan.proofs.BegunScans.{begun, begun_with, begun_pass, begun_reached, begun_asks, begun_counted}
use Rattle.gin_scan.proofs.ListCalls.{look_begins, pin_begins, pinned_after}
use Rattle.gin_scan.proofs.scan_core.ScanCore.begin.Goals as goal

pub returns-in_err-scan : goal.returns-in_err-scan
returns-in_err-scan g c =
    let p = err_from_is_err_and c.from_residual.result c.from_residual.ensures.1 in
    let l = c.unread.ensures.looks in
    rw p.1 (record {
      scanning = tt;
      asks = tt;
      walk = tt;
      reached = tt;
      pinned = tt;
      took = tt;
      counted = tt;
      reads = look_begins g.D.Disk c.args.frames.now c.unread.new.frames c.args.pass.now c.unread.new.pass
          c.requires.held l;
      unpinned = l.pin ∙ c.requires.none;
      cause = subst (CannotBegin c.args.frames.now) (sym p.2) c.in_err-scan.ensures.cause;
    })

pub returns-in-Err : goal.returns-in-Err
returns-in-Err g c =
    let same = c.in-Err.ensures.refused in
    let l = c.unread.ensures.looks in
    let d = c.in-Err.ensures.error in
    let is : c.pin.result ≡ Err (Down d.0) = c.in-Err.is ∙ ap Err d.1 in record {
      scanning = tt;
      asks = tt;
      walk = tt;
      reached = tt;
      pinned = tt;
      took = tt;
      counted = tt;
      reads = subst₂ (λ (f : FramesValue g.row.D.Denot) (q : Pass).
          BeginsReading g.D.Disk c.args.frames.now c.args.pass.now f q) (sym same.0) (sym same.1)
          (look_begins g.D.Disk c.args.frames.now c.unread.new.frames c.args.pass.now c.unread.new.pass
          c.requires.held l);
      unpinned = ap (λ (q : Pass). q.pin) same.1 ∙ l.pin ∙ c.requires.none;
      cause = subst (CannotBegin c.args.frames.now) (sym d.1) (sym l.calm.down ∙ (c.pin.ensures.is_down d.0).0 is);
    }

pub returns-in-Ok : goal.returns-in-Ok
returns-in-Ok g c =
    let l = c.unread.ensures.looks in
    let k = c.pin.ensures.keeps in
    let n = c.in-Ok.snapshot in
    let f = c.pin.new.self in
    let pinned = c.in-Ok.ensures.pinned in
    let b = begun_with c.unread.new.frames f c.args.keys c.in_ok-scan.scan n true k.journal
    c.in_ok-scan.ensures.begun in
    record {
      scanning = begun_pass f c.args.keys _ b c.pin.new.pass (record { commits = n; length = f.journal.state.records })
          c.pin.ensures.pass (k.same.0 ∙ l.held ∙ c.requires.held) (ap pin_in pinned.pin) refl;
      asks = begun_asks c.unread.new.frames c.args.keys c.in_ok-scan.scan c.in_ok-scan.ensures.begun;
      walk = λ q. begun f c.args.keys _ b g.D.Disk _ q c.pin.new.pass c.pin.ensures.pass;
      reached = λ q. begun_reached f c.args.keys _ b
          (meaning g.W.Meaning.asked g.W.Meaning.all g.W.Meaning.satisfies g.W.Meaning.judged) q;
      pinned = pinned_after c.args.frames.now c.unread.new.frames f c.pin.new.pass n l.pins pinned;
      took = refl;
      counted = begun_counted f c.args.keys _ b c.args.pass.now.holds c.pin.new.pass.holds (k.holds ∙ l.holds);
      reads = pin_begins g.D.Disk c.args.frames.now c.unread.new.frames f c.args.pass.now c.unread.new.pass
          c.pin.new.pass n c.requires.held l pinned c.pin.ensures.pass k;
      unpinned = tt;
      cause = tt;
    }

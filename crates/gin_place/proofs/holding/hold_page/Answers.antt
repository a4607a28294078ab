use Rattle.std.proofs.Common.{◌≡◌, ◌∷◌, [], Result, refl, subst}
use Rattle.std.specs.Prelude.{IfOk}
use Rattle.std.proofs.lemmas.Result.{err_from_is_err_and}
use Rattle.wal.specs.Waiting.{down_of}
use Rattle.core_state.specs.Allowed.{Sheet}
use Rattle.core_maintenance.proofs.Found.{right_keeps_found}
use Rattle.buffer_frames.specs.Frames.{Lies, KeepsOthers}
use Rattle.buffer_frames.specs.Passes.{IsHolding}
use Rattle.buffer_frames.specs.declared.frame_error.FrameError.{FrameError}
use Rattle.buffer_frames.proofs.Exits.{on_refusal}
use Rattle.gin_place.specs.Causes.{CannotUse, CannotHold}
use Rattle.gin_place.specs.Faults.{MetNoFault, FaultBy}
use Rattle.gin_place.specs.Holding.{HoldsMore}
use Rattle.gin_place.specs.Inner.Refusals.{frame_refusal}
use Rattle.gin_place.proofs.Running.{hold_goes}
use Rattle.gin_place.proofs.Faults.{fine_still, hold_told, hold_fine}
use Rattle.gin_place.proofs.Carrying.{reads_by, reads_still, same_added, no_more}
use Rattle.gin_place.proofs.Causing.{at_exit, hold_cause}
use Rattle.gin_place.proofs.Exits.{no_ok, none_ok}
use Rattle.gin_place.proofs.holding.hold_page.Goals as goal

pub returns-then-page-ge-PAGE_LIMIT : goal.returns-then-page-ge-PAGE_LIMIT
returns-then-page-ge-PAGE_LIMIT g c =
    let f = c.args.frames.now in
    let pass = c.args.pass.now in
    record {
      reads = reads_still g.D.Disk f pass c.requires.pass (same_added g.D.Disk f);
      number = tt;
      holding = tt;
      lies = tt;
      others = tt;
      down = tt;
      still = no_more g.D.Disk f f pass pass (λ held h. h) refl;
      cause = (refl, CannotUse.past c.if-page-ge-PAGE_LIMIT.true);
      fine = tt;
      fault = fine_still g.D.Disk f;
    }

pub returns-in_err-hold : goal.returns-in_err-hold
returns-in_err-hold g c =
    let r = c.from_residual.result in
    let p = err_from_is_err_and r c.from_residual.ensures.1 in
    let w = c.in_err-hold.field-0.0 in
    let e = c.hold.ensures in
    let f = c.args.frames.now in
    let last = c.hold.new.self in
    let pass = c.hold.new.pass in
    record {
      reads = reads_by g.D.Disk right_keeps_found f last c.args.pass.now pass c.requires.pass c.requires.right e.added
          e.sees_on e.rises e.pass e.same.0 e.same.1 e.same.2 e.right.0 e.pins
          (hold_goes g.D.Disk c.hold.result e.cause e.state e.added e.runs_on e.begins);
      number = none_ok r p.0 (λ h. h.page ≡ c.args.page) p.1;
      holding = none_ok r p.0 (λ h. HoldsMore g.D.Disk f c.args.pass.now last pass h) p.1;
      lies = none_ok r p.0 (λ h. Lies f c.args.page h.content) p.1;
      others = no_ok r p.0 (KeepsOthers f last (c.args.page ∷ [])) p.1;
      down = no_ok r p.0 (down_of last.journal.wal ≡ down_of f.journal.wal) p.1;
      still = on_refusal _ r
          (no_more g.D.Disk f last c.args.pass.now pass c.in_err-hold.ensures.still c.in_err-hold.ensures.held);
      cause = at_exit (λ x. CannotHold g.D.Disk c.args.page last x f c.args.pass.now) r p.0 (frame_refusal w) p.1 p.2
          (hold_cause g.D.Disk f last c.args.pass.now c.args.page c.hold.result w c.in_err-hold.was e.is_down e.bad
          e.cause);
      fine = no_ok r p.0 (MetNoFault g.D.Disk f last) p.1;
      fault = at_exit (λ x. FaultBy g.D.Disk f last x) r p.0 (frame_refusal w) p.1 p.2
          (hold_told g.D.Disk f last c.hold.result w c.in_err-hold.was e.is_down e.cause);
    }

pub returns : goal.returns
returns g c =
    let e = c.hold.ensures in
    let f = c.args.frames.now in
    let last = c.hold.new.self in
    let pass = c.hold.new.pass in
    let fine = hold_fine g.D.Disk f last c.hold.result c.in_ok-hold.field-0 c.in_ok-hold.was e.cause in
    record {
      reads = reads_by g.D.Disk right_keeps_found f last c.args.pass.now pass c.requires.pass c.requires.right e.added
          e.sees_on e.rises e.pass e.same.0 e.same.1 e.same.2 e.right.0 e.pins
          (hold_goes g.D.Disk c.hold.result e.cause e.state e.added e.runs_on e.begins);
      number = c.in_ok-hold.ensures.number;
      holding = λ held h. subst (λ (x : Result Sheet FrameError). IfOk x (λ y. IsHolding g.D.Disk last pass (y ∷ held)))
          c.in_ok-hold.was (e.holding held h);
      lies = c.in_ok-hold.ensures.lies;
      others = c.in_ok-hold.ensures.others;
      down = fine.down;
      still = tt;
      cause = tt;
      fine = fine;
      fault = tt;
    }

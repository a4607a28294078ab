-- A cleanup is stepped to its end, or a step is refused.
use Rattle.std.proofs.Common.{ℕ, ◌≡◌, [], ◌++◌, refl, ◌∙◌, arith, rules}
use Rattle.std.specs.Prelude.{false}
use Rattle.std.proofs.lemmas.Result.{err_from_is_err_and}
use Rattle.gin_place.specs.Faults.{FaultBy}
use Rattle.gin_place.specs.declared.error.PlaceError.{PlaceError}
use Rattle.gin_place.proofs.Carrying.{reads_still, same_added}
use Rattle.gin_place.proofs.Causing.{at_exit}
use Rattle.gin_place.proofs.Faults.{fine_still, fine_then, told_then}
use Rattle.engine.specs.Inner.Cleaned.{EndsBy, NeverBad}
use Rattle.engine.proofs.Cleanups.{through_of, through_reads, through_in_turn}
use Rattle.engine.proofs.Sweeping.{gone_by, ends_by, never_by, never_before}
use Rattle.engine.proofs.cleaning.step_to_end.Goals as goal

pub loop-init : goal.loop-init
loop-init g c =
    let f = c.args.frames.now in
    let p = c.args.pass.now in
    record {
      through = (
        [],
        through_reads g.D.Disk f f p p (reads_still g.D.Disk f p c.requires.pass (same_added g.D.Disk f)).works,
      );
      work = refl;
      none_held = c.requires.none;
      cleaning = λ from is. is;
      met = fine_still g.D.Disk f;
    }

pub step-requires : goal.step-requires
step-requires g c =
    let was = c.loop.invariant in
    record {
      pass = was.through.1.is_pass;
      right = record {
        at = c.requires.right.at;
        has = was.work ∙ c.requires.right.has;
        within = omega (arith, c.requires.right.within, was.through.1.rises.seen);
      };
      none = was.none_held;
      cleaning = (c.requires.cleaning.0, was.cleaning c.requires.cleaning.0 c.requires.cleaning.1);
    }

pub loop-preserved : goal.loop-preserved
loop-preserved g c =
    let was = c.loop.invariant in
    let h = c.in_ok-more.ensures c.requires.cleaning.0 (was.cleaning c.requires.cleaning.0 c.requires.cleaning.1) in
    let w = h.works.2 in
    record {
      through = (
        was.through.0 ++ h.works.0,
        through_in_turn g.D.Disk c.args.frames.now c.loop.frames c.step.new.frames c.args.pass.now c.loop.pass
            c.step.new.pass was.through.0 h.works.0 was.through.1
            (through_of g.D.Disk c.loop.frames c.step.new.frames c.loop.pass c.step.new.pass h.works.0 w),
      );
      work = w.work ∙ was.work;
      none_held = h.none_held;
      cleaning = λ from is. (c.in_ok-more.ensures from (was.cleaning from is)).cleaning;
      met = fine_then g.D.Disk c.args.frames.now c.loop.frames c.step.new.frames was.met h.fine;
    }

pub returns-then-not-more-clause-through : goal.returns-then-not-more-clause-through
returns-then-not-more-clause-through g c =
    let was = c.loop.invariant in
    let h = c.in_ok-more.ensures c.requires.cleaning.0 (was.cleaning c.requires.cleaning.0 c.requires.cleaning.1) in (
      was.through.0 ++ h.works.0,
      through_in_turn g.D.Disk c.args.frames.now c.loop.frames c.step.new.frames c.args.pass.now c.loop.pass
          c.step.new.pass was.through.0 h.works.0 was.through.1
          (through_of g.D.Disk c.loop.frames c.step.new.frames c.loop.pass c.step.new.pass h.works.0 h.works.2),
    )

pub returns-then-not-more-clause-work : goal.returns-then-not-more-clause-work
returns-then-not-more-clause-work g c =
    let was = c.loop.invariant in
    (c.in_ok-more.ensures c.requires.cleaning.0 (was.cleaning c.requires.cleaning.0 c.requires.cleaning.1)).works.2.work
    ∙ was.work

pub returns-then-not-more-clause-none_held : goal.returns-then-not-more-clause-none_held
returns-then-not-more-clause-none_held g c =
    let was = c.loop.invariant in
    (c.in_ok-more.ensures c.requires.cleaning.0 (was.cleaning c.requires.cleaning.0 c.requires.cleaning.1)).none_held

pub returns-then-not-more-clause-gone : goal.returns-then-not-more-clause-gone
returns-then-not-more-clause-gone g c = λ from is.
    let h = c.in_ok-more.ensures from (c.loop.invariant.cleaning from is) in
    let ends : c.in_ok-more.more ≡ false = search (rules, c.if-not-more.true) in
    gone_by g.D.Disk c.step.new.frames c.step.new.pass from c.in_ok-more.more h.works.2.is_pass ends h.ends

pub returns-then-not-more-clause-fine : goal.returns-then-not-more-clause-fine
returns-then-not-more-clause-fine g c =
    let was = c.loop.invariant in
    let h = c.in_ok-more.ensures c.requires.cleaning.0 (was.cleaning c.requires.cleaning.0 c.requires.cleaning.1) in
    fine_then g.D.Disk c.args.frames.now c.loop.frames c.step.new.frames was.met h.fine

pub returns-in_err-more-clause-through : goal.returns-in_err-more-clause-through
returns-in_err-more-clause-through g c =
    let was = c.loop.invariant in
    let h = c.in_err-more.ensures c.requires.cleaning.0 (was.cleaning c.requires.cleaning.0 c.requires.cleaning.1) in (
      was.through.0 ++ h.works.0,
      through_in_turn g.D.Disk c.args.frames.now c.loop.frames c.step.new.frames c.args.pass.now c.loop.pass
          c.step.new.pass was.through.0 h.works.0 was.through.1
          (through_of g.D.Disk c.loop.frames c.step.new.frames c.loop.pass c.step.new.pass h.works.0 h.works.2),
    )

pub returns-in_err-more-clause-work : goal.returns-in_err-more-clause-work
returns-in_err-more-clause-work g c =
    let was = c.loop.invariant in
    (c.in_err-more.ensures c.requires.cleaning.0
    (was.cleaning c.requires.cleaning.0 c.requires.cleaning.1)).works.2.work ∙ was.work

pub returns-in_err-more-clause-none_held : goal.returns-in_err-more-clause-none_held
returns-in_err-more-clause-none_held g c =
    let was = c.loop.invariant in
    (c.in_err-more.ensures c.requires.cleaning.0 (was.cleaning c.requires.cleaning.0 c.requires.cleaning.1)).none_held

pub returns-in_err-more-clause-fault : goal.returns-in_err-more-clause-fault
returns-in_err-more-clause-fault g c =
    let was = c.loop.invariant in
    let h = c.in_err-more.ensures c.requires.cleaning.0 (was.cleaning c.requires.cleaning.0 c.requires.cleaning.1) in
    let p = err_from_is_err_and c.from_residual.result c.from_residual.ensures.1 in
    let w : PlaceError = c.in_err-more.field-0.0 in
    at_exit (λ x. FaultBy g.D.Disk c.args.frames.now c.step.new.frames x) c.from_residual.result p.0 w p.1 p.2
    (told_then g.D.Disk c.args.frames.now c.loop.frames c.step.new.frames w was.met h.fault)

pub returns-in_err-more-clause-cause : goal.returns-in_err-more-clause-cause
returns-in_err-more-clause-cause g c =
    let was = c.loop.invariant in
    let h = c.in_err-more.ensures c.requires.cleaning.0 (was.cleaning c.requires.cleaning.0 c.requires.cleaning.1) in
    let p = err_from_is_err_and c.from_residual.result c.from_residual.ensures.1 in
    let w : PlaceError = c.in_err-more.field-0.0 in
    at_exit (λ x. EndsBy g.D.Disk c.args.frames.now c.step.new.frames x) c.from_residual.result p.0 w p.1 p.2
    (ends_by g.D.Disk c.args.frames.now c.loop.frames c.step.new.frames c.args.pass.now c.loop.pass c.step.new.pass
    was.through.0 w c.requires.up was.through.1 h.refused.added
    (told_then g.D.Disk c.args.frames.now c.loop.frames c.step.new.frames w was.met h.fault) h.cause)

pub returns-in_err-more-clause-lawful : goal.returns-in_err-more-clause-lawful
returns-in_err-more-clause-lawful g c =
    let was = c.loop.invariant in
    let from : ℕ = c.requires.cleaning.0 in
    let h = c.in_err-more.ensures from (was.cleaning from c.requires.cleaning.1) in
    let p = err_from_is_err_and c.from_residual.result c.from_residual.ensures.1 in
    let w : PlaceError = c.in_err-more.field-0.0 in
    at_exit (λ x. NeverBad g.D.Disk c.args.frames.now x) c.from_residual.result p.0 w p.1 p.2
    (never_before g.D.Disk c.args.frames.now c.loop.frames was.through.0 w was.through.1.goes was.met
    (never_by g.D.Disk c.loop.frames w h.lawful))

pub returns-clause-through : goal.returns-clause-through
returns-clause-through g c = c.loop.invariant.through

pub returns-clause-work : goal.returns-clause-work
returns-clause-work g c = c.loop.invariant.work

pub returns-clause-none_held : goal.returns-clause-none_held
returns-clause-none_held g c = c.loop.invariant.none_held

pub returns-clause-fault : goal.returns-clause-fault
returns-clause-fault g c = c.loop.invariant.met

-- The list that there is is cleaned.
use Rattle.std.proofs.Common.{[], ◌++◌, ◌∙◌}
use Rattle.std.proofs.lemmas.Result.{err_from_is_err_and}
use Rattle.gin_place.specs.Faults.{FaultBy}
use Rattle.gin_place.specs.declared.error.PlaceError.{PlaceError}
use Rattle.gin_place.proofs.Carrying.{reads_still, same_added, right_on}
use Rattle.gin_place.proofs.Causing.{at_exit}
use Rattle.gin_place.proofs.Faults.{fine_then, told_then}
use Rattle.engine.specs.Inner.Cleaned.{EndsBy, NeverBad}
use Rattle.engine.proofs.Cleanups.{goes_of, through_reads, through_in_turn}
use Rattle.engine.proofs.ReadSteps.{if_err}
use Rattle.engine.proofs.AtWork.{at_works}
use Rattle.engine.proofs.Sweeping.{on_ok, gone_earlier, ends_by, ends_before, never_by, never_before}
use Rattle.engine.proofs.cleaning.clean_list.Goals as goal

pub returns-in_err-cleanup-clause-through : goal.returns-in_err-cleanup-clause-through
returns-in_err-cleanup-clause-through g c = (
  [],
  through_reads g.D.Disk c.args.frames.now c.begin.new.frames c.args.pass.now c.begin.new.pass
      c.begin.ensures.reads.works,
)

pub returns-in_err-cleanup-clause-work : goal.returns-in_err-cleanup-clause-work
returns-in_err-cleanup-clause-work g c = c.begin.ensures.reads.works.work

pub returns-in_err-cleanup-clause-fault : goal.returns-in_err-cleanup-clause-fault
returns-in_err-cleanup-clause-fault g c =
    let p = err_from_is_err_and c.from_residual.result c.from_residual.ensures.1 in
    let w : PlaceError = c.in_err-cleanup.field-0.0 in
    at_exit (λ x. FaultBy g.D.Disk c.args.frames.now c.begin.new.frames x) c.from_residual.result p.0 w p.1 p.2
    c.in_err-cleanup.ensures.fault

pub returns-in_err-cleanup-clause-cause : goal.returns-in_err-cleanup-clause-cause
returns-in_err-cleanup-clause-cause g c =
    let f = c.args.frames.now in
    let q = c.args.pass.now in
    let p = err_from_is_err_and c.from_residual.result c.from_residual.ensures.1 in
    let w : PlaceError = c.in_err-cleanup.field-0.0 in
    at_exit (λ x. EndsBy g.D.Disk f c.begin.new.frames x) c.from_residual.result p.0 w p.1 p.2
    (ends_by g.D.Disk f f c.begin.new.frames q q c.begin.new.pass [] w c.requires.up
    (through_reads g.D.Disk f f q q (reads_still g.D.Disk f q c.requires.pass (same_added g.D.Disk f)).works)
    c.begin.ensures.reads.works.added c.in_err-cleanup.ensures.fault c.in_err-cleanup.ensures.cause)

pub step_to_end-requires : goal.step_to_end-requires
step_to_end-requires g c =
    let e = c.in_ok-cleanup.ensures in
    record {
      up = e.fine.down ∙ c.requires.up;
      pass = e.reads.works.is_pass;
      right = right_on g.D.Disk c.args.frames.now c.begin.new.frames c.args.pass.now c.begin.new.pass []
          c.requires.right e.reads.works;
      none = e.none_held;
      cleaning = (e.cleaning.0, e.cleaning.2);
    }

pub returns-clause-through : goal.returns-clause-through
returns-clause-through g c =
    let s = c.step_to_end.ensures in (
      [] ++ s.through.0,
      through_in_turn g.D.Disk c.args.frames.now c.begin.new.frames c.step_to_end.new.frames c.args.pass.now
          c.begin.new.pass c.step_to_end.new.pass [] s.through.0
          (through_reads g.D.Disk c.args.frames.now c.begin.new.frames c.args.pass.now c.begin.new.pass
          c.begin.ensures.reads.works) s.through.1,
    )

pub returns-clause-work : goal.returns-clause-work
returns-clause-work g c = c.step_to_end.ensures.work ∙ c.begin.ensures.reads.works.work

pub returns-clause-gone : goal.returns-clause-gone
returns-clause-gone g c =
    let e = c.in_ok-cleanup.ensures in
    on_ok c.step_to_end.result
    (λ gone. gone_earlier g.D.Disk c.step_to_end.new.frames c.args.pass.now.seen e.cleaning.0 e.cleaning.1
    (gone e.cleaning.0 e.cleaning.2))
    c.step_to_end.ensures.gone

pub returns-clause-fine : goal.returns-clause-fine
returns-clause-fine g c =
    on_ok c.step_to_end.result
    (λ met. fine_then g.D.Disk c.args.frames.now c.begin.new.frames c.step_to_end.new.frames
    c.in_ok-cleanup.ensures.fine met)
    c.step_to_end.ensures.fine

pub returns-clause-fault : goal.returns-clause-fault
returns-clause-fault g c =
    if_err c.step_to_end.result
    (λ e told. told_then g.D.Disk c.args.frames.now c.begin.new.frames c.step_to_end.new.frames e
    c.in_ok-cleanup.ensures.fine told)
    c.step_to_end.ensures.fault

pub returns-clause-cause : goal.returns-clause-cause
returns-clause-cause g c =
    if_err c.step_to_end.result
    (λ e. ends_before g.D.Disk c.args.frames.now c.begin.new.frames c.step_to_end.new.frames e
    (at_works g.D.Disk c.args.frames.now c.begin.new.frames c.args.pass.now c.begin.new.pass []
    c.begin.ensures.reads.works) c.begin.ensures.reads.works.added)
    c.step_to_end.ensures.cause

pub returns-in_err-cleanup-clause-lawful : goal.returns-in_err-cleanup-clause-lawful
returns-in_err-cleanup-clause-lawful g c =
    let p = err_from_is_err_and c.from_residual.result c.from_residual.ensures.1 in
    let w : PlaceError = c.in_err-cleanup.field-0.0 in
    at_exit (λ x. NeverBad g.D.Disk c.args.frames.now x) c.from_residual.result p.0 w p.1 p.2
    (never_by g.D.Disk c.args.frames.now w c.in_err-cleanup.ensures.lawful)

pub returns-clause-lawful : goal.returns-clause-lawful
returns-clause-lawful g c =
    if_err c.step_to_end.result
    (λ e. never_before g.D.Disk c.args.frames.now c.begin.new.frames [] e
    (goes_of g.D.Disk c.args.frames.now c.begin.new.frames [] c.begin.ensures.reads.works.goes)
    c.in_ok-cleanup.ensures.fine)
    c.step_to_end.ensures.lawful

-- Items without a linked row leave the trees, and then the chains and slots of their documents go.
use Rattle.std.proofs.Common.{[], ◌++◌, ◌∙◌, arith}
use Rattle.std.proofs.lemmas.Result.{err_from_is_err_and}
use Rattle.gin_place.specs.Faults.{FaultBy}
use Rattle.gin_place.specs.declared.error.PlaceError.{PlaceError}
use Rattle.gin_place.proofs.Carrying.{right_on}
use Rattle.gin_place.proofs.Causing.{at_exit}
use Rattle.gin_place.proofs.Faults.{fine_then, told_then}
use Rattle.engine.specs.Inner.Cleaned.{NeverBad}
use Rattle.engine.specs.Inner.Vacuumed.{EndsTaking}
use Rattle.engine.proofs.Cleanups.{goes_of, through_reads, through_in_turn}
use Rattle.engine.proofs.ReadSteps.{if_err}
use Rattle.engine.proofs.Since.{sees_all}
use Rattle.engine.proofs.AtWork.{at_works}
use Rattle.engine.proofs.Stopped.{nothing_taken, list_cause, taking_before, kinds_taken}
use Rattle.engine.proofs.Sweeping.{on_ok, never_by, never_before}
use Rattle.engine.proofs.Vacuumed.{linked_by}
use Rattle.engine.proofs.vacuuming.take_unlinked.Goals as goal

pub returns-in_err-unlinked-clause-through : goal.returns-in_err-unlinked-clause-through
returns-in_err-unlinked-clause-through g c = (
  [],
  nothing_taken,
  through_reads g.D.Disk c.args.frames.now c.without_rows.new.frames c.args.pass.now c.without_rows.new.pass
      c.without_rows.ensures.reads.works,
)

pub returns-in_err-unlinked-clause-work : goal.returns-in_err-unlinked-clause-work
returns-in_err-unlinked-clause-work g c = c.without_rows.ensures.reads.works.work

pub returns-in_err-unlinked-clause-fault : goal.returns-in_err-unlinked-clause-fault
returns-in_err-unlinked-clause-fault g c =
    let p = err_from_is_err_and c.from_residual.result c.from_residual.ensures.1 in
    let w : PlaceError = c.in_err-unlinked.field-0.0 in
    at_exit (λ x. FaultBy g.D.Disk c.args.frames.now c.without_rows.new.frames x) c.from_residual.result p.0 w p.1 p.2
    c.in_err-unlinked.ensures.fault

pub returns-in_err-unlinked-clause-cause : goal.returns-in_err-unlinked-clause-cause
returns-in_err-unlinked-clause-cause g c =
    let p = err_from_is_err_and c.from_residual.result c.from_residual.ensures.1 in
    let w : PlaceError = c.in_err-unlinked.field-0.0 in
    at_exit (λ x. EndsTaking g.D.Disk c.args.frames.now c.without_rows.new.frames x) c.from_residual.result p.0 w p.1
    p.2
    (list_cause g.D.Disk c.args.frames.now c.without_rows.new.frames c.args.pass.now w c.requires.up
    c.in_err-unlinked.ensures.fault (c.without_rows.ensures.reads.works).added c.in_err-unlinked.ensures.cause)

pub returns-in_err-unlinked-clause-lawful : goal.returns-in_err-unlinked-clause-lawful
returns-in_err-unlinked-clause-lawful g c =
    let p = err_from_is_err_and c.from_residual.result c.from_residual.ensures.1 in
    let w : PlaceError = c.in_err-unlinked.field-0.0 in
    at_exit (λ x. NeverBad g.D.Disk c.args.frames.now x) c.from_residual.result p.0 w p.1 p.2
    (never_by g.D.Disk c.args.frames.now w c.in_err-unlinked.ensures.lawful)

pub take_out-requires : goal.take_out-requires
take_out-requires g c =
    let e = c.in_ok-unlinked.ensures in
    let w = c.without_rows.ensures.reads.works in
    record {
      up = e.fine.down ∙ c.requires.up;
      pass = w.is_pass;
      right = right_on g.D.Disk c.args.frames.now c.without_rows.new.frames c.args.pass.now c.without_rows.new.pass []
          c.requires.right w;
      none = c.without_rows.ensures.none_held;
      dead = e.unlinked.leave;
    }

pub returns-clause-through : goal.returns-clause-through
returns-clause-through g c =
    let t = c.take_out.ensures in (
      [] ++ t.through.0,
      t.through.1,
      through_in_turn g.D.Disk c.args.frames.now c.without_rows.new.frames c.take_out.new.frames c.args.pass.now
          c.without_rows.new.pass c.take_out.new.pass [] t.through.0
          (through_reads g.D.Disk c.args.frames.now c.without_rows.new.frames c.args.pass.now c.without_rows.new.pass
          c.without_rows.ensures.reads.works) t.through.2,
    )

pub returns-clause-work : goal.returns-clause-work
returns-clause-work g c = c.take_out.ensures.work ∙ c.without_rows.ensures.reads.works.work

pub returns-clause-out : goal.returns-clause-out
returns-clause-out g c =
    let f = c.args.frames.now in
    let f1 = c.without_rows.new.frames in
    let p1 = c.without_rows.new.pass in
    let w = c.without_rows.ensures.reads.works in
    let t = c.take_out.ensures in
    on_ok c.take_out.result
    (linked_by g.D.Disk c.vacuum_keeps.ensures f1 c.take_out.new.frames p1 t.through.0
    c.args.pass.now.seen c.args.dead.now _ (t.through.2).added
    (kinds_taken t.through.0 t.through.1) (omega (arith, (w.is_pass).some, (w.is_pass).seen))
    (sees_all g.D.Disk f f1 c.args.pass.now p1 [] w.added tt w.is_pass c.requires.right w.work (w.rises).seen
    c.requires.whole) (w.rises).seen (w.is_pass).seen c.in_ok-unlinked.ensures.unlinked)
    t.out

pub returns-clause-fine : goal.returns-clause-fine
returns-clause-fine g c =
    on_ok c.take_out.result
    (fine_then g.D.Disk c.args.frames.now c.without_rows.new.frames c.take_out.new.frames c.in_ok-unlinked.ensures.fine)
    c.take_out.ensures.fine

pub returns-clause-fault : goal.returns-clause-fault
returns-clause-fault g c =
    if_err c.take_out.result
    (λ e told. told_then g.D.Disk c.args.frames.now c.without_rows.new.frames c.take_out.new.frames e
    c.in_ok-unlinked.ensures.fine told)
    c.take_out.ensures.fault

pub returns-clause-cause : goal.returns-clause-cause
returns-clause-cause g c =
    if_err c.take_out.result
    (λ e. taking_before g.D.Disk c.args.frames.now c.without_rows.new.frames c.take_out.new.frames [] e
    (at_works g.D.Disk c.args.frames.now c.without_rows.new.frames c.args.pass.now c.without_rows.new.pass []
    c.without_rows.ensures.reads.works) (c.without_rows.ensures.reads.works).added tt)
    c.take_out.ensures.cause

pub returns-clause-lawful : goal.returns-clause-lawful
returns-clause-lawful g c =
    if_err c.take_out.result
    (λ e. never_before g.D.Disk c.args.frames.now c.without_rows.new.frames [] e
    (goes_of g.D.Disk c.args.frames.now c.without_rows.new.frames [] c.without_rows.ensures.reads.works.goes)
    c.in_ok-unlinked.ensures.fine)
    c.take_out.ensures.lawful

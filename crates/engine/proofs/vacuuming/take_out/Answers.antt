-- Items leave the trees, and then the chains and slots of their documents go.
use Rattle.std.proofs.Common.{◌++◌, ◌∙◌, arith}
use Rattle.std.proofs.lemmas.Result.{err_from_is_err_and}
use Rattle.gin_place.specs.Faults.{FaultBy}
use Rattle.gin_place.specs.declared.error.PlaceError.{PlaceError}
use Rattle.gin_place.proofs.Causing.{at_exit}
use Rattle.gin_place.proofs.Faults.{fine_then, told_then}
use Rattle.engine.specs.Inner.Cleaned.{NeverBad}
use Rattle.engine.specs.Inner.Vacuumed.{EndsTaking}
use Rattle.engine.proofs.Cleanups.{through_in_turn}
use Rattle.engine.proofs.ReadSteps.{if_err}
use Rattle.engine.proofs.AtWork.{at_vacuums}
use Rattle.engine.proofs.Stopped.{through_vacuum, swept_alone, swept_freed, sweep_cause, free_cause, taking_before}
use Rattle.engine.proofs.Sweeping.{on_ok, if_err_both, never_as, never_before}
use Rattle.engine.proofs.Vacuumed.{out_of, taken_by}
use Rattle.engine.proofs.vacuuming.take_out.Goals as goal

pub returns-in_err-sweep-clause-through : goal.returns-in_err-sweep-clause-through
returns-in_err-sweep-clause-through g c =
    let w = c.sweep.ensures.works in (
      w.0,
      swept_alone w.0 w.1,
      through_vacuum g.D.Disk c.args.frames.now c.sweep.new.frames c.args.pass.now c.sweep.new.pass w.0 w.2,
    )

pub returns-in_err-sweep-clause-work : goal.returns-in_err-sweep-clause-work
returns-in_err-sweep-clause-work g c = c.sweep.ensures.works.2.work

pub returns-in_err-sweep-clause-fault : goal.returns-in_err-sweep-clause-fault
returns-in_err-sweep-clause-fault g c =
    let p = err_from_is_err_and c.from_residual.result c.from_residual.ensures.1 in
    let w : PlaceError = c.in_err-sweep.field-0.0 in
    at_exit (λ x. FaultBy g.D.Disk c.args.frames.now c.sweep.new.frames x) c.from_residual.result p.0 w p.1 p.2
    c.in_err-sweep.ensures.fault

pub returns-in_err-sweep-clause-cause : goal.returns-in_err-sweep-clause-cause
returns-in_err-sweep-clause-cause g c =
    let p = err_from_is_err_and c.from_residual.result c.from_residual.ensures.1 in
    let w : PlaceError = c.in_err-sweep.field-0.0 in
    at_exit (λ x. EndsTaking g.D.Disk c.args.frames.now c.sweep.new.frames x) c.from_residual.result p.0 w p.1 p.2
    (sweep_cause g.D.Disk c.args.frames.now c.sweep.new.frames c.args.pass.now w c.requires.up
    c.in_err-sweep.ensures.fault
    c.in_err-sweep.ensures.cause)

pub returns-in_err-sweep-clause-lawful : goal.returns-in_err-sweep-clause-lawful
returns-in_err-sweep-clause-lawful g c =
    let p = err_from_is_err_and c.from_residual.result c.from_residual.ensures.1 in
    let w : PlaceError = c.in_err-sweep.field-0.0 in
    at_exit (λ x. NeverBad g.D.Disk c.args.frames.now x) c.from_residual.result p.0 w p.1 p.2
    (never_as g.D.Disk c.args.frames.now w c.in_err-sweep.ensures.lawful)

pub free_slots-requires-clause-pass : goal.free_slots-requires-clause-pass
free_slots-requires-clause-pass g c = c.sweep.ensures.works.2.is_pass

pub free_slots-requires-clause-right : goal.free_slots-requires-clause-right
free_slots-requires-clause-right g c =
    let v = c.sweep.ensures.works.2 in
    record {
      at = c.requires.right.at;
      has = v.work ∙ c.requires.right.has;
      within = omega (arith, c.requires.right.within, v.rises.seen);
    }

pub free_slots-requires-clause-out : goal.free_slots-requires-clause-out
free_slots-requires-clause-out g c =
    out_of g.D.Disk c.sweep.new.frames c.sweep.new.pass c.args.dead.now c.sweep.ensures.dead c.in_ok-sweep.ensures.swept

pub returns-clause-through : goal.returns-clause-through
returns-clause-through g c =
    let w = c.sweep.ensures.works in
    let v = c.free_slots.ensures.works in (
      w.0 ++ v.0,
      swept_freed w.0 v.0 w.1 v.1,
      through_in_turn g.D.Disk c.args.frames.now c.sweep.new.frames c.free_slots.new.frames c.args.pass.now
          c.sweep.new.pass
          c.free_slots.new.pass w.0 v.0
          (through_vacuum g.D.Disk c.args.frames.now c.sweep.new.frames c.args.pass.now c.sweep.new.pass w.0 w.2)
          (through_vacuum g.D.Disk c.sweep.new.frames c.free_slots.new.frames c.sweep.new.pass c.free_slots.new.pass v.0
          v.2),
    )

pub returns-clause-work : goal.returns-clause-work
returns-clause-work g c = c.free_slots.ensures.works.2.work ∙ c.sweep.ensures.works.2.work

pub returns-clause-out : goal.returns-clause-out
returns-clause-out g c =
    let w = c.sweep.ensures.works.2 in
    let v = c.free_slots.ensures.works.2 in
    on_ok c.free_slots.result
    (taken_by g.D.Disk c.args.pass.now.seen c.sweep.new.pass.seen c.args.dead.now c.free_slots.new.frames
    (w.rises).seen (omega (arith, (w.is_pass).seen, (v.added).longer)))
    c.free_slots.ensures.freed

pub returns-clause-fine : goal.returns-clause-fine
returns-clause-fine g c =
    on_ok c.free_slots.result
    (fine_then g.D.Disk c.args.frames.now c.sweep.new.frames c.free_slots.new.frames c.in_ok-sweep.ensures.fine)
    c.free_slots.ensures.fine

pub returns-clause-fault : goal.returns-clause-fault
returns-clause-fault g c =
    if_err c.free_slots.result
    (λ e told. told_then g.D.Disk c.args.frames.now c.sweep.new.frames c.free_slots.new.frames e
    c.in_ok-sweep.ensures.fine told)
    c.free_slots.ensures.fault

pub returns-clause-cause : goal.returns-clause-cause
returns-clause-cause g c =
    let w = c.sweep.ensures.works in
    let t = through_vacuum g.D.Disk c.args.frames.now c.sweep.new.frames c.args.pass.now c.sweep.new.pass w.0 w.2 in
    if_err_both c.free_slots.result
    (λ e told why. taking_before g.D.Disk c.args.frames.now c.sweep.new.frames c.free_slots.new.frames w.0 e
    (at_vacuums g.D.Disk c.args.frames.now c.sweep.new.frames c.args.pass.now c.sweep.new.pass w.0 w.2) t.added t.are
    (free_cause g.D.Disk c.sweep.new.frames c.free_slots.new.frames c.sweep.new.pass e
    (c.in_ok-sweep.ensures.fine.down ∙ c.requires.up) told why))
    c.free_slots.ensures.fault c.free_slots.ensures.cause

pub returns-clause-lawful : goal.returns-clause-lawful
returns-clause-lawful g c =
    let w = c.sweep.ensures.works in
    let t = through_vacuum g.D.Disk c.args.frames.now c.sweep.new.frames c.args.pass.now c.sweep.new.pass w.0 w.2 in
    if_err c.free_slots.result
    (λ e never. never_before g.D.Disk c.args.frames.now c.sweep.new.frames w.0 e t.goes c.in_ok-sweep.ensures.fine
    (never_as g.D.Disk c.sweep.new.frames e never))
    c.free_slots.ensures.lawful

-- What is dead is found, the list cleaned, and then what was dead taken out.
use Rattle.std.proofs.Common.{◌≡◌, [], ◌++◌, ◌∙◌, sym, subst, append-nil, true, false}
use Rattle.std.proofs.lemmas.Result.{err_from_is_err_and}
use Rattle.gin_place.specs.Faults.{FaultBy}
use Rattle.gin_place.specs.declared.error.PlaceError.{PlaceError}
use Rattle.gin_place.proofs.Causing.{at_exit}
use Rattle.gin_place.proofs.Faults.{fine_then, told_then}
use Rattle.engine.specs.Inner.Cleaned.{NeverBad, IndexGoesOn}
use Rattle.engine.specs.Inner.Vacuumed.{EndsVacuum}
use Rattle.engine.specs.Vacuuming.{IsVacuum}
use Rattle.engine.proofs.Cleanups.{goes_of, goes_then, through_as, through_reads, through_in_turn, index_kinds}
use Rattle.engine.proofs.ReadSteps.{if_err}
use Rattle.engine.proofs.AtWork.{at_works}
use Rattle.engine.proofs.Stopped.{nothing_taken, vacuumed, find_cause, vacuum_cleaning, fine_full, comes_full}
use Rattle.engine.proofs.Stopped.{full_ends, full_lawful}
use Rattle.engine.proofs.Sweeping.{on_ok, never_by, never_before}
use Rattle.engine.proofs.VacuumSteps.{right_found, right_cleaned, whole_cleaned, heads_cleaned}
use Rattle.engine.proofs.VacuumSteps.{dead_cleaned}
use Rattle.engine.proofs.VacuumSteps.{vacuumed_by, gone_by, full_by, ends_by_taking}
use Rattle.engine.proofs.vacuuming.vacuum_list.Goals as goal

pub returns-in_err-dead-clause-through : goal.returns-in_err-dead-clause-through
returns-in_err-dead-clause-through g c = (
  [],
  vacuumed [] [] tt nothing_taken,
  through_reads g.D.Disk c.args.frames.now c.find_dead.new.frames c.args.pass.now c.find_dead.new.pass
      c.find_dead.ensures.reads.works,
)

pub returns-in_err-dead-clause-work : goal.returns-in_err-dead-clause-work
returns-in_err-dead-clause-work g c = c.find_dead.ensures.reads.works.work

pub returns-in_err-dead-clause-fault : goal.returns-in_err-dead-clause-fault
returns-in_err-dead-clause-fault g c =
    let p = err_from_is_err_and c.from_residual.result c.from_residual.ensures.1 in
    let w : PlaceError = c.in_err-dead.field-0.0 in
    at_exit (λ x. FaultBy g.D.Disk c.args.frames.now c.find_dead.new.frames x) c.from_residual.result p.0 w p.1 p.2
    c.in_err-dead.ensures.fault

pub returns-in_err-dead-clause-cause : goal.returns-in_err-dead-clause-cause
returns-in_err-dead-clause-cause g c =
    let p = err_from_is_err_and c.from_residual.result c.from_residual.ensures.1 in
    let w : PlaceError = c.in_err-dead.field-0.0 in
    at_exit (λ x. EndsVacuum g.D.Disk c.args.frames.now c.find_dead.new.frames x) c.from_residual.result p.0 w p.1 p.2
    (find_cause g.D.Disk c.args.frames.now c.find_dead.new.frames c.args.pass.now w c.requires.up
    c.in_err-dead.ensures.fault (c.find_dead.ensures.reads.works).added c.in_err-dead.ensures.cause)

pub returns-in_err-dead-clause-lawful : goal.returns-in_err-dead-clause-lawful
returns-in_err-dead-clause-lawful g c =
    let p = err_from_is_err_and c.from_residual.result c.from_residual.ensures.1 in
    let w : PlaceError = c.in_err-dead.field-0.0 in
    at_exit (λ x. NeverBad g.D.Disk c.args.frames.now x) c.from_residual.result p.0 w p.1 p.2
    (never_by g.D.Disk c.args.frames.now w c.in_err-dead.ensures.lawful)

pub clean_list-requires : goal.clean_list-requires
clean_list-requires g c =
    let w = c.find_dead.ensures.reads.works in
    record {
      up = c.in_ok-dead.ensures.fine.down ∙ c.requires.up;
      pass = w.is_pass;
      right = right_found g.D.Disk c.args.frames.now c.find_dead.new.frames c.args.pass.now c.find_dead.new.pass
          c.requires.pass c.requires.right c.requires.all w;
      none = c.find_dead.ensures.none_held;
    }

pub take_out-requires : goal.take_out-requires
take_out-requires g c =
    let f = c.args.frames.now in
    let f1 = c.find_dead.new.frames in
    let f2 = c.clean_list.new.frames in
    let p = c.args.pass.now in
    let p1 = c.find_dead.new.pass in
    let p2 = c.clean_list.new.pass in
    let w = c.find_dead.ensures.reads.works in
    let k = c.clean_list.ensures in
    let found = c.in_ok-dead.ensures.dead in
    record {
      up = (c.in-Ok.ensures.fine).down ∙ c.in_ok-dead.ensures.fine.down ∙ c.requires.up;
      pass = k.through.1.is_pass;
      right = right_cleaned g.D.Disk f f1 p p1 c.requires.pass c.requires.right c.requires.all w f2 p2 k.through.0
          k.through.1 k.work
          _ found;
      none = k.none_held;
      dead = dead_cleaned g.D.Disk f f1 p p1 c.requires.pass c.requires.right c.requires.all w f2 p2 k.through.0
          k.through.1 k.work
          _ found c.dead_heads_stay.ensures.records
          c.in-Ok.ensures.gone;
    }

pub returns-in-Ok-clause-through : goal.returns-in-Ok-clause-through
returns-in-Ok-clause-through g c =
    let f = c.args.frames.now in
    let f1 = c.find_dead.new.frames in
    let f2 = c.clean_list.new.frames in
    let p = c.args.pass.now in
    let p1 = c.find_dead.new.pass in
    let p2 = c.clean_list.new.pass in
    let w = c.find_dead.ensures.reads.works in
    let k = c.clean_list.ensures in
    let found = c.in_ok-dead.ensures.dead in
    let t = c.take_out.ensures in (
      [] ++ (k.through.0 ++ t.through.0),
      vacuumed k.through.0 t.through.0 k.through.1.are t.through.1,
      through_in_turn g.D.Disk f f1 c.take_out.new.frames p p1 c.take_out.new.pass [] (k.through.0 ++ t.through.0)
          (through_reads g.D.Disk f f1 p p1 w)
          (through_in_turn g.D.Disk f1 f2 c.take_out.new.frames p1 p2 c.take_out.new.pass k.through.0 t.through.0
          (through_as g.D.Disk f1 f2 p1 p2 k.through.0 (index_kinds k.through.0 k.through.1.are) k.through.1)
          t.through.2),
    )

pub returns-in-Ok-clause-work : goal.returns-in-Ok-clause-work
returns-in-Ok-clause-work g c =
    c.take_out.ensures.work ∙ c.clean_list.ensures.work ∙ c.find_dead.ensures.reads.works.work

pub returns-in-Ok-clause-gone : goal.returns-in-Ok-clause-gone
returns-in-Ok-clause-gone g c =
    let f = c.args.frames.now in
    let f1 = c.find_dead.new.frames in
    let f2 = c.clean_list.new.frames in
    let p = c.args.pass.now in
    let p1 = c.find_dead.new.pass in
    let p2 = c.clean_list.new.pass in
    let w = c.find_dead.ensures.reads.works in
    let k = c.clean_list.ensures in
    let found = c.in_ok-dead.ensures.dead in
    let t = c.take_out.ensures in
    on_ok c.take_out.result
    (λ o. gone_by g.D.Disk f f1 p p1 c.requires.pass c.requires.right c.requires.all w f2 p2 k.through.0 k.through.1
    k.work
    _ found c.take_out.new.frames t.through.0 t.through.1 t.through.2.added
    c.in-Ok.ensures.gone) t.out

pub returns-in-Ok-clause-vacuumed : goal.returns-in-Ok-clause-vacuumed
returns-in-Ok-clause-vacuumed g c =
    let f = c.args.frames.now in
    let f1 = c.find_dead.new.frames in
    let f2 = c.clean_list.new.frames in
    let p = c.args.pass.now in
    let p1 = c.find_dead.new.pass in
    let p2 = c.clean_list.new.pass in
    let w = c.find_dead.ensures.reads.works in
    let k = c.clean_list.ensures in
    let found = c.in_ok-dead.ensures.dead in
    let t = c.take_out.ensures in
    on_ok c.take_out.result
    (vacuumed_by g.D.Disk f f1 p p1 c.requires.pass c.requires.right c.requires.all w f2 p2 k.through.0 k.through.1
    k.work
    _ found c.take_out.new.frames t.through.0 t.through.1 t.through.2.added
    c.placing_keeps.ensures.pairs c.shift_keeps.ensures c.vacuum_keeps.ensures c.in-Ok.ensures.gone) t.out

pub returns-in-Ok-clause-fine : goal.returns-in-Ok-clause-fine
returns-in-Ok-clause-fine g c =
    let f = c.args.frames.now in
    let f1 = c.find_dead.new.frames in
    let f2 = c.clean_list.new.frames in
    let p = c.args.pass.now in
    let p1 = c.find_dead.new.pass in
    let p2 = c.clean_list.new.pass in
    let w = c.find_dead.ensures.reads.works in
    let k = c.clean_list.ensures in
    let found = c.in_ok-dead.ensures.dead in
    let met = fine_then g.D.Disk f f1 f2 c.in_ok-dead.ensures.fine c.in-Ok.ensures.fine in
    on_ok c.take_out.result (fine_then g.D.Disk f f2 c.take_out.new.frames met) c.take_out.ensures.fine

pub returns-in-Ok-clause-fault : goal.returns-in-Ok-clause-fault
returns-in-Ok-clause-fault g c =
    let f = c.args.frames.now in
    let f1 = c.find_dead.new.frames in
    let f2 = c.clean_list.new.frames in
    let p = c.args.pass.now in
    let p1 = c.find_dead.new.pass in
    let p2 = c.clean_list.new.pass in
    let w = c.find_dead.ensures.reads.works in
    let k = c.clean_list.ensures in
    let found = c.in_ok-dead.ensures.dead in
    let met = fine_then g.D.Disk f f1 f2 c.in_ok-dead.ensures.fine c.in-Ok.ensures.fine in
    if_err c.take_out.result (λ e. told_then g.D.Disk f f2 c.take_out.new.frames e met) c.take_out.ensures.fault

pub returns-in-Ok-clause-cause : goal.returns-in-Ok-clause-cause
returns-in-Ok-clause-cause g c =
    let f = c.args.frames.now in
    let f1 = c.find_dead.new.frames in
    let f2 = c.clean_list.new.frames in
    let p = c.args.pass.now in
    let p1 = c.find_dead.new.pass in
    let p2 = c.clean_list.new.pass in
    let w = c.find_dead.ensures.reads.works in
    let k = c.clean_list.ensures in
    let found = c.in_ok-dead.ensures.dead in
    if_err c.take_out.result
    (λ e. ends_by_taking g.D.Disk f f1 p p1 c.requires.pass c.requires.right c.requires.all w f2 p2 k.through.0
    k.through.1 k.work
    _ found c.take_out.new.frames e)
    c.take_out.ensures.cause

pub returns-in-Ok-clause-lawful : goal.returns-in-Ok-clause-lawful
returns-in-Ok-clause-lawful g c =
    let f = c.args.frames.now in
    let f1 = c.find_dead.new.frames in
    let f2 = c.clean_list.new.frames in
    let p = c.args.pass.now in
    let p1 = c.find_dead.new.pass in
    let p2 = c.clean_list.new.pass in
    let w = c.find_dead.ensures.reads.works in
    let k = c.clean_list.ensures in
    let found = c.in_ok-dead.ensures.dead in
    let met = fine_then g.D.Disk f f1 f2 c.in_ok-dead.ensures.fine c.in-Ok.ensures.fine in
    let goes : IndexGoesOn g.D.Disk f f2 ([] ++ k.through.0) = goes_then g.D.Disk f f1 f2 [] k.through.0 w.added
    (goes_of g.D.Disk f f1 [] w.goes) k.through.1.goes in
    if_err c.take_out.result (λ e. never_before g.D.Disk f f2 ([] ++ k.through.0) e goes met) c.take_out.ensures.lawful

pub take_rest-requires : goal.take_rest-requires
take_rest-requires g c =
    let f = c.args.frames.now in
    let f1 = c.find_dead.new.frames in
    let f2 = c.clean_list.new.frames in
    let p = c.args.pass.now in
    let p1 = c.find_dead.new.pass in
    let p2 = c.clean_list.new.pass in
    let w = c.find_dead.ensures.reads.works in
    let k = c.clean_list.ensures in
    let found = c.in_ok-dead.ensures.dead in
    let full = c.is_full.ensures.0 c.if-is_full.true in
    record {
      up = (fine_full g.D.Disk f1 f2 c.in-Err.error full c.in-Err.ensures.fault).down ∙ c.in_ok-dead.ensures.fine.down ∙
          c.requires.up;
      pass = k.through.1.is_pass;
      right = right_cleaned g.D.Disk f f1 p p1 c.requires.pass c.requires.right c.requires.all w f2 p2 k.through.0
          k.through.1 k.work
          _ found;
      none = k.none_held;
      whole = whole_cleaned g.D.Disk f f1 p p1 c.requires.pass c.requires.right c.requires.all w f2 p2 k.through.0
          k.through.1 k.work
          _ found;
      dead = heads_cleaned g.D.Disk f f1 p p1 c.requires.pass c.requires.right c.requires.all w f2 p2 k.through.0
          k.through.1 k.work
          _ found c.dead_heads_stay.ensures.records;
    }

pub returns-then-is_full-clause-through : goal.returns-then-is_full-clause-through
returns-then-is_full-clause-through g c =
    let f = c.args.frames.now in
    let f1 = c.find_dead.new.frames in
    let f2 = c.clean_list.new.frames in
    let p = c.args.pass.now in
    let p1 = c.find_dead.new.pass in
    let p2 = c.clean_list.new.pass in
    let w = c.find_dead.ensures.reads.works in
    let k = c.clean_list.ensures in
    let found = c.in_ok-dead.ensures.dead in
    let t = c.take_rest.ensures in (
      [] ++ (k.through.0 ++ t.through.0),
      vacuumed k.through.0 t.through.0 k.through.1.are t.through.1,
      through_in_turn g.D.Disk f f1 c.take_rest.new.frames p p1 c.take_rest.new.pass [] (k.through.0 ++ t.through.0)
          (through_reads g.D.Disk f f1 p p1 w)
          (through_in_turn g.D.Disk f1 f2 c.take_rest.new.frames p1 p2 c.take_rest.new.pass k.through.0 t.through.0
          (through_as g.D.Disk f1 f2 p1 p2 k.through.0 (index_kinds k.through.0 k.through.1.are) k.through.1)
          t.through.2),
    )

pub returns-then-is_full-clause-work : goal.returns-then-is_full-clause-work
returns-then-is_full-clause-work g c =
    c.take_rest.ensures.work ∙ c.clean_list.ensures.work ∙ c.find_dead.ensures.reads.works.work

pub returns-then-is_full-clause-fault : goal.returns-then-is_full-clause-fault
returns-then-is_full-clause-fault g c =
    let f = c.args.frames.now in
    let f1 = c.find_dead.new.frames in
    let f2 = c.clean_list.new.frames in
    let p = c.args.pass.now in
    let p1 = c.find_dead.new.pass in
    let p2 = c.clean_list.new.pass in
    let w = c.find_dead.ensures.reads.works in
    let k = c.clean_list.ensures in
    let found = c.in_ok-dead.ensures.dead in
    let full = c.is_full.ensures.0 c.if-is_full.true in
    let met = fine_then g.D.Disk f f1 f2 c.in_ok-dead.ensures.fine
    (fine_full g.D.Disk f1 f2 c.in-Err.error full c.in-Err.ensures.fault) in
    told_then g.D.Disk f f2 c.take_rest.new.frames c.take_rest.result met c.take_rest.ensures.fault

pub returns-then-is_full-clause-cause : goal.returns-then-is_full-clause-cause
returns-then-is_full-clause-cause g c =
    let f = c.args.frames.now in
    let f1 = c.find_dead.new.frames in
    let f2 = c.clean_list.new.frames in
    let p = c.args.pass.now in
    let p1 = c.find_dead.new.pass in
    let p2 = c.clean_list.new.pass in
    let w = c.find_dead.ensures.reads.works in
    let k = c.clean_list.ensures in
    let found = c.in_ok-dead.ensures.dead in
    let full = c.is_full.ensures.0 c.if-is_full.true in
    let t = c.take_rest.ensures in
    full_ends g.D.Disk f c.take_rest.new.frames c.take_rest.result t.either
    (λ is. full_by g.D.Disk f f1 p p1 c.requires.pass c.requires.right c.requires.all w f2 p2 k.through.0 k.through.1
    k.work _ found c.take_rest.new.frames t.through.0 t.through.1 t.through.2.added
    (comes_full g.D.Disk f1 f2 c.in-Err.error full c.in-Err.ensures.cause) (t.rest is))

pub returns-then-is_full-clause-lawful : goal.returns-then-is_full-clause-lawful
returns-then-is_full-clause-lawful g c =
    let f = c.args.frames.now in
    let f1 = c.find_dead.new.frames in
    let f2 = c.clean_list.new.frames in
    let p = c.args.pass.now in
    let p1 = c.find_dead.new.pass in
    let p2 = c.clean_list.new.pass in
    let w = c.find_dead.ensures.reads.works in
    let k = c.clean_list.ensures in
    let found = c.in_ok-dead.ensures.dead in
    full_lawful g.D.Disk f c.take_rest.result c.take_rest.ensures.either

pub returns-clause-through : goal.returns-clause-through
returns-clause-through g c =
    let f = c.args.frames.now in
    let f1 = c.find_dead.new.frames in
    let f2 = c.clean_list.new.frames in
    let p = c.args.pass.now in
    let p1 = c.find_dead.new.pass in
    let p2 = c.clean_list.new.pass in
    let w = c.find_dead.ensures.reads.works in
    let k = c.clean_list.ensures in
    let found = c.in_ok-dead.ensures.dead in (
      [] ++ k.through.0,
      subst IsVacuum (append-nil k.through.0) (vacuumed k.through.0 [] k.through.1.are nothing_taken),
      through_in_turn g.D.Disk f f1 f2 p p1 p2 [] k.through.0 (through_reads g.D.Disk f f1 p p1 w)
          (through_as g.D.Disk f1 f2 p1 p2 k.through.0 (index_kinds k.through.0 k.through.1.are) k.through.1),
    )

pub returns-clause-work : goal.returns-clause-work
returns-clause-work g c =
    c.clean_list.ensures.work ∙ c.find_dead.ensures.reads.works.work

pub returns-clause-fault : goal.returns-clause-fault
returns-clause-fault g c =
    let f = c.args.frames.now in
    let f1 = c.find_dead.new.frames in
    let f2 = c.clean_list.new.frames in
    let p = c.args.pass.now in
    let p1 = c.find_dead.new.pass in
    let p2 = c.clean_list.new.pass in
    let w = c.find_dead.ensures.reads.works in
    let k = c.clean_list.ensures in
    let found = c.in_ok-dead.ensures.dead in
    told_then g.D.Disk f f1 f2 c.in-Err.error c.in_ok-dead.ensures.fine c.in-Err.ensures.fault

pub returns-clause-cause : goal.returns-clause-cause
returns-clause-cause g c =
    let f = c.args.frames.now in
    let f1 = c.find_dead.new.frames in
    let f2 = c.clean_list.new.frames in
    let p = c.args.pass.now in
    let p1 = c.find_dead.new.pass in
    let p2 = c.clean_list.new.pass in
    let w = c.find_dead.ensures.reads.works in
    let k = c.clean_list.ensures in
    let found = c.in_ok-dead.ensures.dead in
    vacuum_cleaning g.D.Disk f f1 f2 c.in-Err.error (at_works g.D.Disk f f1 p p1 [] w) w.added
    (λ full. let z : false ≡ true = sym c.if-is_full.false ∙ c.is_full.ensures.1 full in let y : ⊥ = cc in y)
    c.in-Err.ensures.cause

pub returns-clause-lawful : goal.returns-clause-lawful
returns-clause-lawful g c =
    let f = c.args.frames.now in
    let f1 = c.find_dead.new.frames in
    let f2 = c.clean_list.new.frames in
    let p = c.args.pass.now in
    let p1 = c.find_dead.new.pass in
    let p2 = c.clean_list.new.pass in
    let w = c.find_dead.ensures.reads.works in
    let k = c.clean_list.ensures in
    let found = c.in_ok-dead.ensures.dead in
    never_before g.D.Disk f f1 [] c.in-Err.error (goes_of g.D.Disk f f1 [] w.goes) c.in_ok-dead.ensures.fine
    c.in-Err.ensures.lawful

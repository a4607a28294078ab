use Rattle.std.proofs.Common.{sym}
use Rattle.std.proofs.lemmas.Result.{err_from_is_err_and}
use Rattle.core_maintenance.proofs.Found.{right_keeps_found}
use Rattle.core_vacuum.proofs.HeapPages.{heap_pages_hold}
use Rattle.buffer_frames.proofs.Exits.{on_refusal}
use Rattle.gin_place.specs.Inner.Refusals.{log_refusal}
use Rattle.gin_place.specs.Faults.{MetNoFault, FaultBy}
use Rattle.gin_place.specs.Holding.{ReadsOn}
use Rattle.gin_place.proofs.Running.{refused_goes}
use Rattle.gin_place.proofs.Faults.{log_told, log_fine}
use Rattle.gin_place.proofs.Carrying.{reads_by}
use Rattle.gin_place.proofs.Causing.{at_exit}
use Rattle.gin_place.proofs.Exits.{no_ok}
use Rattle.gin_vacuum.specs.Inner.Logging.{LogsStep, CannotLog}
use Rattle.gin_vacuum.proofs.Logs.{no_begin, xid_same, logs_by, log_cause}
use Rattle.gin_vacuum.proofs.logging.log_pages.Goals as goal

pub log_step-requires-clause-one : goal.log_step-requires-clause-one
log_step-requires-clause-one g c is = absurd (no_begin c.args.step.kind c.requires.vacuum is)

pub returns-in_err-log_step : goal.returns-in_err-log_step
returns-in_err-log_step g c =
    let x = c.from_residual.result in
    let r = err_from_is_err_and x c.from_residual.ensures.1 in
    let w = c.in_err-log_step.field-0.0 in
    let f = c.args.frames.now in
    let p = c.args.pass.now in
    let h = c.log_step.new.self in
    let q = c.log_step.new.pass in
    let e = c.log_step.ensures in
    let n = c.in_err-log_step.ensures in
    record {
      none_held = sym e.none_held.all;
      logged = no_ok x r.0 (LogsStep g.D.Disk f p c.args.pages.items c.args.step h q) r.1;
      refused = on_refusal (ReadsOn g.D.Disk f p h q) x
          (reads_by g.D.Disk right_keeps_found f h p q c.requires.is_pass c.requires.right n.refused n.refused_sees_on
          e.rises e.pass e.same.0 e.same.1 n.refused_xid e.work e.pins
          (refused_goes g.D.Disk c.log_step.result e.cause n.refused_state n.refused e.runs_on n.refused_begins));
      cause = at_exit (λ y. CannotLog g.D.Disk h y f p) x r.0 (log_refusal w) r.1 r.2
          (log_cause g.D.Disk f h p c.args.step c.log_step.result w c.requires.vacuum c.requires.encoded
          c.requires.pages c.in_err-log_step.was e.full e.is_down e.cause);
      fine = no_ok x r.0 (MetNoFault g.D.Disk f h) r.1;
      fault = at_exit (λ y. FaultBy g.D.Disk f h y) x r.0 (log_refusal w) r.1 r.2
          (log_told g.D.Disk f h c.log_step.result w c.in_err-log_step.was e.is_down e.cause e.goes_down);
    }

pub returns : goal.returns
returns g c =
    let f = c.args.frames.now in
    let p = c.args.pass.now in
    let h = c.log_step.new.self in
    let q = c.log_step.new.pass in
    let e = c.log_step.ensures in
    let n = c.in_ok-log_step.ensures in
    record {
      none_held = sym e.none_held.all;
      logged = logs_by g.D.Disk heap_pages_hold f h p q c.args.pages.items c.args.step c.requires c.log_step.result
          e.cause n.logged n.state e.runs_on n.begins n.added n.seen n.all e.rises e.pass e.same.0 e.same.1
          (xid_same c.args.step.kind c.requires.vacuum _ p.xid n.xid) e.work e.pins;
      refused = tt;
      cause = tt;
      fine = log_fine g.D.Disk f h c.log_step.result c.in_ok-log_step.field-0 c.in_ok-log_step.was e.cause e.goes_down;
      fault = tt;
    }

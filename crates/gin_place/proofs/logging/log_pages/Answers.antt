use Rattle.std.proofs.Common.{sym, arith}
use Rattle.page_types.specs.Records.{kind_number}
use Rattle.std.proofs.lemmas.Result.{err_from_is_err_and}
use Rattle.core_maintenance.proofs.Found.{right_keeps_found}
use Rattle.core_maintenance.proofs.NamesStay.{names_stay}
use Rattle.core_maintenance.proofs.Pairs.{pairs_hold}
use Rattle.buffer_frames.proofs.Exits.{on_refusal}
use Rattle.gin_place.specs.Causes.{CannotLog}
use Rattle.gin_place.specs.Inner.Logging.{LogsStep}
use Rattle.gin_place.specs.Inner.Refusals.{log_refusal}
use Rattle.gin_place.proofs.Running.{refused_goes, logged_goes}
use Rattle.gin_place.specs.Faults.{MetNoFault, FaultBy}
use Rattle.gin_place.proofs.Faults.{log_told, log_fine}
use Rattle.gin_place.proofs.Carrying.{reads_by}
use Rattle.gin_place.proofs.Logs.{within, early_placing, no_begin, xid_same, logs_by}
use Rattle.gin_place.proofs.Causing.{at_exit, log_cause}
use Rattle.gin_place.proofs.Exits.{no_ok}
use Rattle.gin_place.proofs.logging.log_pages.Goals as goal

pub log_step-requires : goal.log_step-requires
log_step-requires g c = record {
  pass = c.requires.is_pass;
  holding = c.requires.holding;
  encoded = c.requires.encoded;
  kind = c.requires.kind;
  one = λ is. absurd (no_begin c.args.step.kind c.requires.placing is);
  may = c.requires.may;
  owes = c.requires.owes;
}

pub returns-in_err-log_step : goal.returns-in_err-log_step
returns-in_err-log_step g c =
    let r = c.from_residual.result in
    let p = err_from_is_err_and r c.from_residual.ensures.1 in
    let w = c.in_err-log_step.field-0.0 in
    let e = c.log_step.ensures in
    let o = c.in_err-log_step.ensures in
    let f = c.args.frames.now in
    let last = c.log_step.new.self in
    let pass = c.log_step.new.pass in
    record {
      none_held = sym (e.none_held).all;
      logged = no_ok r p.0 (LogsStep g.D.Disk f c.args.pass.now c.args.pages.items c.args.step last pass) p.1;
      refused = on_refusal _ r
          (reads_by g.D.Disk right_keeps_found f last c.args.pass.now pass c.requires.is_pass c.requires.right o.refused
          o.refused_sees_on e.rises e.pass e.same.0 e.same.1 o.refused_xid e.work e.pins
          (refused_goes g.D.Disk c.log_step.result e.cause o.refused_state o.refused e.runs_on o.refused_begins));
      cause = at_exit (λ x. CannotLog g.D.Disk last x f c.args.pass.now) r p.0 (log_refusal w) p.1 p.2
          (log_cause g.D.Disk f last c.args.pass.now c.args.step c.log_step.result w c.requires.placing
          c.requires.encoded c.requires.pages c.in_err-log_step.was e.full e.is_down e.cause);
      fine = no_ok r p.0 (MetNoFault g.D.Disk f last) p.1;
      fault = at_exit (λ x. FaultBy g.D.Disk f last x) r p.0 (log_refusal w) p.1 p.2
          (log_told g.D.Disk f last c.log_step.result w c.in_err-log_step.was e.is_down e.cause e.goes_down);
    }

pub returns : goal.returns
returns g c =
    let e = c.log_step.ensures in
    let o = c.in_ok-log_step.ensures in
    let f = c.args.frames.now in
    let last = c.log_step.new.self in
    let pass = c.log_step.new.pass in
    let kinds = within (kind_number c.args.step.kind) c.requires.placing in
    record {
      none_held = sym (e.none_held).all;
      logged = logs_by g.D.Disk right_keeps_found pairs_hold names_stay f last c.args.pass.now pass c.args.pages.items
          c.args.step c.requires o.added o.seen o.all e.rises e.pass e.same.0 e.same.1
          (xid_same c.args.step.kind c.requires.placing _ c.args.pass.now.xid o.xid) e.work e.pins
          (logged_goes g.D.Disk f last c.args.step c.log_step.result (omega (arith, kinds.0)) kinds.1
          (early_placing c.args.step.kind c.requires.placing) e.cause o.logged o.state e.runs_on o.begins);
      refused = tt;
      cause = tt;
      fine = log_fine g.D.Disk f last c.log_step.result c.in_ok-log_step.field-0 c.in_ok-log_step.was e.cause
          e.goes_down;
      fault = tt;
    }

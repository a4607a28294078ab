use Rattle.std.proofs.Common.{inl, arith, sym, subst, ◌∙◌}
use Rattle.shell_run.specs.Inner.Serving.{ServeMeets}
use Rattle.shell_run.proofs.Ending.{unopened, stop_is, at_store, at_fault, at_memory}
use Rattle.shell_run.proofs.Served.{serve_short, serve_stopped, serve_ended}
use Rattle.shell_run.proofs.Streams.{appends_none}
use Rattle.shell_run.proofs.top.serve.Goals as goal

pub returns-in_default : goal.returns-in_default
returns-in_default g c =
    serve_short g.K.Sink g.D.Disk c.args.out.now c.args.device _ c.args.text.now c.status.result
    c.status.ensures

pub returns-in-Err : goal.returns-in-Err
returns-in-Err g c =
    let u =
    unopened c.from.result _ c.status-in-Err.ensures (stop_is c.in-Err.field-0.why c.from.result c.from.ensures) in
    let n = u.number in
    record {
      range = (omega (arith, n), λ e. omega (arith, n), λ e. omega (arith, n));
      causes = record {
        status_4 = λ t e. c.in-Err.ensures.no_store t (at_store c.in-Err.field-0.why (sym c.from.ensures ∙ u.at_4 e));
        no_store = λ t l. (λ e. omega (arith, n), λ e. omega (arith, n), λ e. omega (arith, n));
        keeps_4 = λ e. c.in-Err.ensures.keeps (at_store c.in-Err.field-0.why (sym c.from.ensures ∙ u.at_4 e));
        keeps_no_store = λ t none. c.in-Err.ensures.no_store_kept t none;
        status_7 = λ e. absurd (omega (arith, n));
        status_3 =
            λ e. (
              λ three. c.in-Err.ensures.fault (at_fault c.in-Err.field-0.why (sym c.from.ensures ∙ u.at_3 three)),
              λ rose. omega (arith, n, e),
            );
        pages = λ t. c.in-Err.ensures.pages t;
      };
      headline = inl (record {
        nothing =
            record {
              sink = appends_none (g.K.Sink.taken c.args.out.now);
              statuses =
                  (λ e. omega (arith, n), λ e. omega (arith, n), λ e. omega (arith, n));
            };
        as_before = λ t s. c.in-Err.ensures.refused t s;
        only_read = λ t made. c.in-Err.ensures.made_kept t made;
        memory = λ e. c.in-Err.ensures.memory (at_memory c.in-Err.field-0.why (sym c.from.ensures ∙ u.at_5 e));
      });
    }

pub returns-in-Err-ran : goal.returns-in-Err-ran
returns-in-Err-ran g c =
    let o = c.in-Ok-open.ensures.opened in
    subst (λ z. ServeMeets g.K.Sink g.D.Disk z c.args.text.now c.status-in-Err-ran.result c.args.out.now
    c.run_steps-device.new.out c.args.device c.run_steps-device.result.0) c.settings_of.ensures
    (serve_stopped g.K.Sink g.D.Disk c.settings_of.result c.args.text.now c.args.out.now c.run_steps-device.new.out
    c.args.device c.run_steps-device.result.0 o.0 _ _ _ c.in-Err-ran.stop c.status-in-Err-ran.result
    (record { opened = o.1; a_store = c.in-Ok-open.ensures.store; ran = c.run_steps-device.ensures.ran })
    c.in-Err-ran.is c.run_steps-device.ensures.error c.run_steps-device.ensures.fault
    c.status-in-Err-ran.ensures)

pub returns : goal.returns
returns g c =
    let o = c.in-Ok-open.ensures.opened in
    subst (λ z. ServeMeets g.K.Sink g.D.Disk z c.args.text.now c.ending_status.result c.args.out.now
    c.run_steps-device.new.out c.args.device c.run_steps-device.result.0) c.settings_of.ensures
    (serve_ended g.K.Sink g.D.Disk c.settings_of.result c.args.text.now c.args.out.now c.run_steps-device.new.out
    c.args.device c.run_steps-device.result.0 o.0 _ _ _ c.in-Ok-ran.refused c.ending_status.result
    (record { opened = o.1; a_store = c.in-Ok-open.ensures.store; ran = c.run_steps-device.ensures.ran })
    c.in-Ok-ran.is c.faults-before.result c.faults.result c.faults-before.ensures c.faults.ensures
    c.ending_status.ensures)

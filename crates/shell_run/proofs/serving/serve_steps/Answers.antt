use Rattle.std.proofs.Common.{ℕ, List, [], ◌<◌, length, subst, ◌∙◌, arith, sym, refl, false, true}
use Rattle.shell_script.specs.StepView.{step as shown}
use Rattle.shell_run.specs.declared.serving.RunState.{RunState}
use Rattle.shell_run.specs.declared.sending.TheConstants.{PIECE_BYTES}
use Rattle.shell_run.proofs.Progressing.{some_piece, went_badly, progress_start, progress_left, progress_sent}
use Rattle.shell_run.proofs.Progressing.{step_stop, step_goes, stopped_out, ended_out, Laws}
use Rattle.shell_run.proofs.serving.serve_steps.Goals as goal

pub loop-step-init : goal.loop-step-init
loop-step-init g c =
    let laws : Laws g.D.Disk = record {
      image = g.met.D.Disk.seen_is_image;
      one = c.opens_to_one.ensures;
      lawful = c.histories_are_lawful.ensures;
    } in (
      progress_left g.D.Disk _ _ _ _ _ c.args.text.now _ _ true
          (progress_start g.D.Disk laws (g.K.Sink.taken c.args.out.now) c.args.state.now.pass c.args.state.now
          c.args.text.now c.requires.up c.requires.first c.requires.fresh.0 c.requires.fresh.1)
          (sym (c.into_iter-step-iterator.ensures.into_iter_gives ∙ c.steps-step-items.ensures.value)),
      omega arith,
      omega arith,
      c.requires.session,
      refl,
    )

pub returns-in-Err-clause-ran : goal.returns-in-Err-clause-ran
returns-in-Err-clause-ran g c =
    let laws : Laws g.D.Disk = record {
      image = g.met.D.Disk.seen_is_image;
      one = c.opens_to_one.ensures;
      lawful = c.histories_are_lawful.ensures;
    } in
    step_stop g.D.Disk laws _ _ _ _ _ _ _ c.args.text.now (shown c.in-Some.step) c.next.new.self c.in-Err.stop
    (progress_left g.D.Disk _ _ _ _ _ c.args.text.now _ _ true c.loop-step.invariant.0 c.in-Some.ensures.steps)
    c.in-Err.ensures.served

pub loop-step-preserved : goal.loop-step-preserved
loop-step-preserved g c =
    let laws : Laws g.D.Disk = record {
      image = g.met.D.Disk.seen_is_image;
      one = c.opens_to_one.ensures;
      lawful = c.histories_are_lawful.ensures;
    } in (
      step_goes g.D.Disk laws _ _ _ _ _ _ _ c.args.text.now (shown c.in-Some.step) c.next.new.self
          (progress_left g.D.Disk _ _ _ _ _ c.args.text.now _ _ true c.loop-step.invariant.0
          c.in-Some.ensures.steps) c.in_default.ensures.served,
      omega (arith, c.loop-step.invariant.1, c.serve_step.ensures.later),
      omega (arith, c.loop-step.invariant.2, c.serve_step.ensures.counts),
      c.serve_step.ensures.session,
      c.serve_step.ensures.room ∙ c.loop-step.invariant.4,
    )

pub returns-in-Err-flush-clause-ran : goal.returns-in-Err-flush-clause-ran
returns-in-Err-flush-clause-ran g c =
    let laws : Laws g.D.Disk = record {
      image = g.met.D.Disk.seen_is_image;
      one = c.opens_to_one.ensures;
      lawful = c.histories_are_lawful.ensures;
    } in
    let run_state : RunState g.row.D.Denot = record {
      store = c.loop-step.state.store;
      pass = c.loop-step.state.pass;
      configs = c.loop-step.state.configs;
      waiting = c.flush.new.waiting;
      refused = c.loop-step.state.refused;
      statements = c.loop-step.state.statements;
    } in
    stopped_out g.D.Disk laws _ _ _ _ run_state c.args.text.now [] c.in-Err-flush.stop
    (progress_sent g.D.Disk _ _ _ _ _ c.loop-step.state run_state c.args.text.now [] false
    (progress_left g.D.Disk _ _ _ _ _ c.args.text.now _ _ true c.loop-step.invariant.0
    c.in-None.ensures.steps.0) refl refl refl c.in-Err-flush.ensures.text
    (went_badly (length c.flush.new.waiting.items)))

pub returns-clause-ran : goal.returns-clause-ran
returns-clause-ran g c =
    let laws : Laws g.D.Disk = record {
      image = g.met.D.Disk.seen_is_image;
      one = c.opens_to_one.ensures;
      lawful = c.histories_are_lawful.ensures;
    } in
    let run_state : RunState g.row.D.Denot = record {
      store = c.loop-step.state.store;
      pass = c.loop-step.state.pass;
      configs = c.loop-step.state.configs;
      waiting = c.flush.new.waiting;
      refused = c.loop-step.state.refused;
      statements = c.loop-step.state.statements;
    } in
    ended_out g.D.Disk laws _ _ _ _ run_state c.args.text.now
    (progress_sent g.D.Disk _ _ _ _ _ c.loop-step.state run_state c.args.text.now [] true
    (progress_left g.D.Disk _ _ _ _ _ c.args.text.now _ _ true c.loop-step.invariant.0
    c.in-None.ensures.steps.0) refl refl refl c.in_default-flush.ensures.text
    (λ e. subst (λ z. length z < PIECE_BYTES) (sym {A = List ℕ} c.in_default-flush.ensures.empty) some_piece))
    c.in_default-flush.ensures.empty

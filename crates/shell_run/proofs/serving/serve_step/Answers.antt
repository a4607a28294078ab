use Rattle.std.proofs.Common.{inl, ◌∙◌, ◌++◌, ap, subst, ◌||◌}
use Rattle.std.specs.Prelude.{◌≡◌, true, false, Result, Ok, Err, OnOk, is_ok}
use Rattle.shell_script.specs.ReplyView.{reply}
use Rattle.shell_script.specs.Texts.{said}
use Rattle.shell_run.specs.Outcomes.{is_refusal}
use Rattle.shell_run.specs.Inner.Sending.{Sends}
use Rattle.shell_run.proofs.serving.serve_step.Goals as goal

at_ok : {T E : Type 0} (r : Result T E) (P : Type 0) → is_ok r ≡ true → OnOk r P → P
at_ok (Ok x) P e h = h
at_ok (Err x) P e h = absurd (let f : false ≡ true = e in let y : ⊥ = cc in y)

pub returns-clause-served : goal.returns-clause-served
returns-clause-served g c =
    let t = c.in_ok-session.ensures.turned in
    let shown = reply c.in_ok-session.reply in
    inl (record {
      session = c.in_ok-session.session;
      reply = shown;
      turned = record { statement = t.statement; says = t.says; answered = t.answered; becomes = t.becomes };
      text = subst (λ w. Sends (g.K.Sink.taken c.args.out.now) (g.K.Sink.taken c.put_reply.new.out)
          (w.items ++ said c.in_ok-session.session shown) c.put_reply.new.waiting.items (is_ok c.put_reply.result))
          c.turn.ensures.waiting c.put_reply.ensures.text;
      few = λ e. at_ok c.put_reply.result _ e c.put_reply.ensures.few;
      flag = ap (λ b. c.turn.new.state.refused || b) c.is_refused.ensures
          ∙ ap (λ b. b || is_refusal shown) c.turn.ensures.refused;
    })

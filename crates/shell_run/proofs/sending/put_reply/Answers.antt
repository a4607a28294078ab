use Rattle.std.proofs.Common.{◌≡◌, ◌++◌, true, false, append_assoc, subst, ◌∙◌}
use Rattle.std.specs.Prelude.{is_ok}
use Rattle.shell_script.specs.Texts.{lines_before, last_line}
use Rattle.shell_script.specs.ReplyView.{reply}
use Rattle.shell_run.specs.Inner.Sending.{Sends}
use Rattle.shell_run.proofs.Streams.{puts_behind, puts_short}
use Rattle.shell_run.proofs.sending.put_reply.Goals as goal

pub returns-in-Err-clause-text : goal.returns-in-Err-clause-text
returns-in-Err-clause-text g c =
    let answer = reply c.args.answer.now in
    let waiting = c.put_lines_before.new.waiting.items in
    subst (λ z. Sends (g.K.Sink.taken c.args.out.now) (g.K.Sink.taken c.put_lines_before.new.out) z waiting false)
    (append_assoc c.args.waiting.now.items (lines_before answer) (last_line c.args.session answer))
    (puts_short _ _ (c.args.waiting.now.items ++ lines_before answer)
    (last_line c.args.session answer) waiting waiting false c.in-Err.ensures.text)

pub returns-in-Ok-clause-text : goal.returns-in-Ok-clause-text
returns-in-Ok-clause-text g c =
    let answer = reply c.args.answer.now in
    let before = c.put_lines_before.new.waiting.items in
    let line : c.deref.result.now ≡ last_line c.args.session answer = c.deref.ensures.value ∙ c.in-Ok.ensures in
    subst (λ z. Sends (g.K.Sink.taken c.args.out.now) (g.K.Sink.taken c.put.new.out) z c.put.new.waiting.items
    (is_ok c.put.result))
    (append_assoc c.args.waiting.now.items (lines_before answer) (last_line c.args.session answer))
    (puts_behind _ _ _ (c.args.waiting.now.items ++ lines_before answer) before
    (last_line c.args.session answer) c.put.new.waiting.items (is_ok c.put.result) c.in_default.ensures.text
    (subst (λ z. Sends (g.K.Sink.taken c.put_lines_before.new.out) (g.K.Sink.taken c.put.new.out)
    (before ++ z) c.put.new.waiting.items (is_ok c.put.result)) line c.put.ensures.text))

pub returns-in-Err-last_line_of-clause-text : goal.returns-in-Err-last_line_of-clause-text
returns-in-Err-last_line_of-clause-text g c =
    let answer = reply c.args.answer.now in
    let waiting = c.put_lines_before.new.waiting.items in
    subst (λ z. Sends (g.K.Sink.taken c.args.out.now) (g.K.Sink.taken c.put_lines_before.new.out) z waiting false)
    (append_assoc c.args.waiting.now.items (lines_before answer) (last_line c.args.session answer))
    (puts_short _ _ (c.args.waiting.now.items ++ lines_before answer)
    (last_line c.args.session answer) waiting waiting true c.in_default.ensures.text)

use Rattle.std.proofs.Common.{◌++◌, ◌+◌, false, true, arith, subst}
use Rattle.shell_script.specs.ReplyView.{commit_line}
use Rattle.shell_script.specs.Texts.{commit_text}
use Rattle.shell_run.specs.Inner.Sending.{Sends}
use Rattle.shell_run.proofs.CommitTexts.{commits_stop, commits_go_on}
use Rattle.shell_run.proofs.sending.put_commits.Goals as goal

pub returns-in-Err-clause-text : goal.returns-in-Err-clause-text
returns-in-Err-clause-text g c =
    let place = c.loop-place.place in
    commits_stop commit_line c.args.commits.now place c.index-commits-place.result c.loop-place-test.true _ _ _
    c.args.waiting.now.items c.loop-place.waiting.items c.put_commit.new.waiting.items c.loop-place.invariant.0
    (subst (λ z. Sends (g.K.Sink.taken c.loop-place.out) (g.K.Sink.taken c.put_commit.new.out)
    (c.loop-place.waiting.items ++ commit_text (place + 1) (commit_line z)) c.put_commit.new.waiting.items false)
    c.index-commits-place.is c.in-Err.ensures.text)

pub loop-place-preserved : goal.loop-place-preserved
loop-place-preserved g c =
    let place = c.loop-place.place in (
      commits_go_on commit_line c.args.commits.now place c.index-commits-place.result c.loop-place-test.true _ _ _
          c.args.waiting.now.items c.loop-place.waiting.items c.put_commit.new.waiting.items true
          c.loop-place.invariant.0
          (subst (λ z. Sends (g.K.Sink.taken c.loop-place.out) (g.K.Sink.taken c.put_commit.new.out)
          (c.loop-place.waiting.items ++ commit_text (place + 1) (commit_line z)) c.put_commit.new.waiting.items true)
          c.index-commits-place.is c.in_default.ensures.text),
      omega (arith, c.loop-place.invariant.1, c.put_commit.ensures.later),
    )

use Rattle.std.proofs.Common.{◌≤◌, ◌++◌, true, map, take}
use Rattle.shell_script.specs.ReplyView.{commit_line}
use Rattle.shell_script.specs.Texts.{commit_texts}
use Rattle.shell_run.specs.Inner.Sending.{Sends}
use Rattle.shell_run.proofs.sending.put_commits.Given as goal

abbrev pub invariant-loop-place : goal.invariant-loop-place
invariant-loop-place g l =
    Sends (g.K.Sink.taken l.fn.out) (g.K.Sink.taken l.out)
    (l.fn.waiting.items ++ commit_texts 1 (map commit_line (take l.place l.commits))) l.waiting.items true
    × (g.K.Sink.fault_count l.fn.out ≤ g.K.Sink.fault_count l.out)

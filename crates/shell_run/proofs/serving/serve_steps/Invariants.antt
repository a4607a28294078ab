use Rattle.std.proofs.Common.{◌≡◌, ◌≤◌, true}
use Rattle.engine.specs.Answers.{IsSession}
use Rattle.engine.specs.Db.{disk_of}
use Rattle.shell_run.proofs.Progressing.{Progress}
use Rattle.shell_run.proofs.serving.serve_steps.Given as goal

abbrev pub invariant-loop-step : goal.invariant-loop-step
invariant-loop-step g l =
    Progress g.D.Disk (g.K.Sink.taken l.fn.out) (g.K.Sink.taken l.out) l.fn.state.store l.fn.state.pass l.state l.text
    l.step-iterator true
    × (g.K.Sink.fault_count l.fn.out ≤ g.K.Sink.fault_count l.out)
    × (g.D.Disk.fault_count (disk_of l.fn.state.store) ≤ g.D.Disk.fault_count (disk_of l.state.store))
    × IsSession l.state.store l.state.pass × (l.state.pass.room ≡ l.fn.state.pass.room)

use Rattle.std.proofs.Common.{◌≤◌, length, true}
use Rattle.shell_run.specs.Inner.Sending.{Sends}
use Rattle.shell_run.proofs.sending.write_all.Given as goal

abbrev pub invariant-loop-rest : goal.invariant-loop-rest
invariant-loop-rest g l = Sends (g.K.Sink.taken l.fn.out) (g.K.Sink.taken l.out) l.bytes l.rest true
    × (g.K.Sink.fault_count l.fn.out ≤ g.K.Sink.fault_count l.out)

abbrev pub decreases-loop-rest : goal.decreases-loop-rest
decreases-loop-rest g l = length l.rest

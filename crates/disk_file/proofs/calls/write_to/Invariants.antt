use Rattle.std.proofs.Common.{◌≡◌, ◌-◌, true, length}
use Rattle.disk_file.specs.Inner.Turns.{HasWritten}
use Rattle.disk_file.proofs.calls.write_to.Given as goal

abbrev pub decreases-loop-put : goal.decreases-loop-put
decreases-loop-put g l = length l.bytes - l.put

abbrev pub invariant-loop-put : goal.invariant-loop-put
invariant-loop-put g l =
    HasWritten g.F.HostFolder.tells (λ f. g.F.HostFolder.locks l.handle f ≡ true) l.at l.put l.bytes
    (g.F.HostFolder.state l.fn.folder) (g.F.HostFolder.state l.folder)

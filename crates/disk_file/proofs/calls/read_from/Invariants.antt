use Rattle.std.proofs.Common.{◌≡◌, ◌-◌, true, length}
use Rattle.disk_file.specs.Inner.Turns.{HasRead}
use Rattle.disk_file.proofs.calls.read_from.Given as goal

abbrev pub decreases-loop-got : goal.decreases-loop-got
decreases-loop-got g l = length l.buf - l.got

abbrev pub invariant-loop-got : goal.invariant-loop-got
invariant-loop-got g l =
    HasRead g.F.HostFolder.tells (λ f. g.F.HostFolder.locks l.handle f ≡ true) l.at l.got l.buf
    (g.F.HostFolder.state l.fn.folder) (g.F.HostFolder.state l.folder)

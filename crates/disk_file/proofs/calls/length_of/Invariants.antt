use Rattle.disk_file.specs.Inner.Turns.{LooksInVain}
use Rattle.disk_file.proofs.calls.length_of.Given as goal

abbrev pub invariant-loop : goal.invariant-loop
invariant-loop g l =
    LooksInVain g.F.HostFolder.tells l.counter (g.F.HostFolder.state l.fn.folder) (g.F.HostFolder.state l.folder)

use Rattle.std.proofs.Common.{◌≡◌, true, length}
use Rattle.disk_file.specs.Inner.Turns.{WritesInVain}
use Rattle.disk_file.proofs.calls.write_once.Given as goal

abbrev pub invariant-loop : goal.invariant-loop
invariant-loop g l =
    WritesInVain g.F.HostFolder.tells (λ f. g.F.HostFolder.locks l.handle f ≡ true) l.counter l.at (length l.bytes)
    (g.F.HostFolder.state l.fn.folder) (g.F.HostFolder.state l.folder)

use Rattle.std.proofs.Common.{◌≤◌, drop, length}
use Rattle.disk_trait.specs.Inner.Tearing.{HasNoSync}
use Rattle.disk_trait.proofs.memory.MemoryFile.settled_by.Given as goal

abbrev pub invariant-loop-settled : goal.invariant-loop-settled
invariant-loop-settled l =
    (l.settled ≤ length l.self.events.items) × HasNoSync l.moment (drop l.settled l.self.events.items)

abbrev pub decreases-loop-settled : goal.decreases-loop-settled
decreases-loop-settled l = l.settled

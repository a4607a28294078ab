use Rattle.std.proofs.Common.{take}
use Rattle.core_state.specs.States.{fate_of}
use Rattle.gin_scan.specs.Seen.{AreSeen}
use Rattle.gin_scan.proofs.asks.SeenHeadsAskResultVecBoolAllocError.ask.Given as goal

abbrev pub invariant-loop-kept : goal.invariant-loop-kept
invariant-loop-kept l =
    AreSeen (fate_of l.state.value) l.self.commits l.self.page.now (take l.kept-index l.kept-items) l.seen.items

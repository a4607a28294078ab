use Rattle.core_state.specs.States.{fate_of}
use Rattle.gin_vacuum.specs.Inner.Asked.{AreDeadTo}
use Rattle.gin_vacuum.proofs.asks.dead_items.Given as goal

abbrev pub invariant-loop-slot : goal.invariant-loop-slot
invariant-loop-slot l = AreDeadTo (fate_of l.state.value) l.floor l.held.page l.slots l.slot l.items.items

use Rattle.core_state.specs.States.{known_by}
use Rattle.core_vacuum.proofs.FreedSlots.{GoUpTo}
use Rattle.core_vacuum.proofs.freeing.slots_go.Given as goal

abbrev pub invariant-loop-k : goal.invariant-loop-k
invariant-loop-k l = GoUpTo (known_by l.state.value) l.floor l.slots l.new l.k l.freed

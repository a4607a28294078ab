use Rattle.core_state.specs.Inner.Lowest.{AreUsedBelow}
use Rattle.core_state.proofs.uses.lowest_from.Given as goal

abbrev pub invariant-loop-page : goal.invariant-loop-page
invariant-loop-page l = AreUsedBelow l.uses l.page

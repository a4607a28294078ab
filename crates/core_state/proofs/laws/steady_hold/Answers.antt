use Rattle.core_state.proofs.LawsHold.{steady}
use Rattle.core_state.proofs.laws.steady_hold.Goals as goal

pub returns : goal.returns
returns c = steady

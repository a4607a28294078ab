use Rattle.core_state.proofs.StateTold.{state_told}
use Rattle.core_state.proofs.laws.state_follows.Goals as goal

pub returns : goal.returns
returns c = state_told

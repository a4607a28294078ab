use Rattle.core_state.proofs.LawsHold.{bullets}
use Rattle.core_state.proofs.laws.bullets_hold.Goals as goal

pub returns : goal.returns
returns c = bullets

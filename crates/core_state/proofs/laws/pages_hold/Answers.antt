use Rattle.core_state.proofs.LawsHold.{pages}
use Rattle.core_state.proofs.laws.pages_hold.Goals as goal

pub returns : goal.returns
returns c = pages

use Rattle.core_moments.proofs.OpenRows.{lists_open}
use Rattle.core_moments.proofs.laws.lists_stay_open.Goals as goal

pub returns : goal.returns
returns c = lists_open

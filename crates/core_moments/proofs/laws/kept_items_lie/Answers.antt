use Rattle.core_moments.proofs.KeptHeaps.{kept_lie}
use Rattle.core_moments.proofs.laws.kept_items_lie.Goals as goal

pub returns : goal.returns
returns c start = kept_lie _

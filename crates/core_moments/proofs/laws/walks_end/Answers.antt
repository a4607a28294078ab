use Rattle.core_moments.proofs.Ends.{ends}
use Rattle.core_moments.proofs.laws.walks_end.Goals as goal

pub returns : goal.returns
returns c = ends

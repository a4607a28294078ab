use Rattle.core_moments.proofs.OpenTrees.{trees_open}
use Rattle.core_moments.proofs.laws.trees_stay_open.Goals as goal

pub returns : goal.returns
returns c = trees_open

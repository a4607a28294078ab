use Rattle.core_moments.specs.OpenWalk.{ReadsInTree}
use Rattle.core_moments.proofs.OpenWays.{ways_open}
use Rattle.core_moments.proofs.laws.ways_stay_open.Goals as goal

pub returns : goal.returns
returns c = ways_open ReadsInTree

use Rattle.core_moments.proofs.Moments.{law_holds}
use Rattle.core_moments.proofs.laws.moments_hold.Goals as goal

pub returns : goal.returns
returns c start = law_holds _

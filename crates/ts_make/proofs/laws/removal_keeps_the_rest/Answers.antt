use Rattle.ts_make.proofs.Removal.{rest_kept}
use Rattle.ts_make.proofs.laws.removal_keeps_the_rest.Goals as goal

pub returns : goal.returns
returns c = rest_kept

use Rattle.ts_match.proofs.Candidates.{have}
use Rattle.ts_match.proofs.laws.needed_have.Goals as goal

pub returns : goal.returns
returns c = have

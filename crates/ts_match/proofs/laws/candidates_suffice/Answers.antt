use Rattle.ts_match.proofs.Candidates.{suffice}
use Rattle.ts_match.proofs.laws.candidates_suffice.Goals as goal

pub returns : goal.returns
returns c = suffice

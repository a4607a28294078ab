use Rattle.ts_match.specs.Laws.JudgeLaw.{judges}
use Rattle.ts_match.proofs.laws.judges_well.Goals as goal

pub returns : goal.returns
returns c = judges

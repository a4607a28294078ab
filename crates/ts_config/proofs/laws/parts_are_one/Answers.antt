use Rattle.ts_config.proofs.Parts.{parts_same}
use Rattle.ts_config.proofs.laws.parts_are_one.Goals as goal

pub returns : goal.returns
returns c = parts_same

use Rattle.ts_config.proofs.Placing.{placed_are_one}
use Rattle.ts_config.proofs.laws.placed_are_one.Goals as goal

pub returns : goal.returns
returns c = placed_are_one

use Rattle.ts_config.proofs.Placing.{positions_rise}
use Rattle.ts_config.proofs.laws.positions_rise.Goals as goal

pub returns : goal.returns
returns c = positions_rise

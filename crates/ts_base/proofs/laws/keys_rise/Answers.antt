use Rattle.ts_base.proofs.KeyOrder.{keys_rise_at}
use Rattle.ts_base.proofs.laws.keys_rise.Goals as goal

pub returns : goal.returns
returns c = keys_rise_at

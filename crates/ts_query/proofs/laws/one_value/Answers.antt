use Rattle.ts_query.proofs.Unique.{one_value}
use Rattle.ts_query.proofs.laws.one_value.Goals as goal

pub returns : goal.returns
returns c text p q a b = one_value text p q a b

use Rattle.ts_query.proofs.Decimal.{distance_is_decimal}
use Rattle.ts_query.proofs.laws.distance_is_decimal.Goals as goal

pub returns : goal.returns
returns c = distance_is_decimal

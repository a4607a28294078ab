use Rattle.ts_websearch.proofs.Rows.{rows_are_one}
use Rattle.ts_websearch.proofs.laws.rows_are_one.Goals as goal

pub returns : goal.returns
returns c = rows_are_one

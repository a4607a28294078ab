use Rattle.ts_query.proofs.Printing.{prints_back}
use Rattle.ts_query.proofs.laws.prints_back.Goals as goal

pub returns : goal.returns
returns c q s = prints_back q s

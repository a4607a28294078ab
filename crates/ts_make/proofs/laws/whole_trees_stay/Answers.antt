use Rattle.ts_make.proofs.Removal.{whole_stays}
use Rattle.ts_make.proofs.laws.whole_trees_stay.Goals as goal

pub returns : goal.returns
returns c = whole_stays

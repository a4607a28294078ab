use Rattle.ts_make.proofs.Grouping.{groups_are_one}
use Rattle.ts_make.proofs.laws.groups_are_one.Goals as goal

pub returns : goal.returns
returns c = groups_are_one

use Rattle.ts_make.proofs.Trees.{groups_are_near}
use Rattle.ts_make.proofs.laws.groups_are_near.Goals as goal

pub returns : goal.returns
returns c = groups_are_near

use Rattle.std.proofs.Common.{◌≢◌, [], rules}
use Rattle.entry_tree.proofs.SearchSteps.{below_told}
use Rattle.entry_tree.proofs.searching.is_below.Goals as goal

pub returns-then-not-is_empty : goal.returns-then-not-is_empty
returns-then-not-is_empty g c =
    let some : c.args.bound.now ≢ [] = search rules in
    below_told c.args.bound.now c.args.key.now c.compare.result c.is_lt.result some c.compare.ensures c.is_lt.ensures

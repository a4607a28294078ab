use Rattle.std.proofs.Common.{rules}
use Rattle.store_cases.proofs.entry_tests.takes.Goals as goal

pub add-requires-clause-no_tree : goal.add-requires-clause-no_tree
add-requires-clause-no_tree c = c.is_leaf_for.ensures.no_tree (search rules)

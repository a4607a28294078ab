use Rattle.core_maintenance.proofs.TreeSteps.{split_may, grow_root_may, make_tree_may}
use Rattle.core_maintenance.proofs.trees.tree_steps_hold.Goals as goal

pub returns-clause-split : goal.returns-clause-split
returns-clause-split c = split_may

pub returns-clause-grow_root : goal.returns-clause-grow_root
returns-clause-grow_root c = grow_root_may

pub returns-clause-make_tree : goal.returns-clause-make_tree
returns-clause-make_tree c = make_tree_may

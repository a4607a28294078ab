use Rattle.core_maintenance.proofs.NamesStay.{names_stay, made_tree_named}
use Rattle.core_maintenance.proofs.trees.tree_names_hold.Goals as goal

pub returns-clause-stay : goal.returns-clause-stay
returns-clause-stay c = names_stay

pub returns-clause-made : goal.returns-clause-made
returns-clause-made c = made_tree_named

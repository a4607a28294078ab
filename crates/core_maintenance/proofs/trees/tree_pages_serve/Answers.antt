use Rattle.core_maintenance.proofs.TreePages.{split_pages_serve, grown_pages_serve, tree_pages_serve}
use Rattle.core_maintenance.proofs.trees.tree_pages_serve.Goals as goal

pub returns-clause-split : goal.returns-clause-split
returns-clause-split c = split_pages_serve

pub returns-clause-grown : goal.returns-clause-grown
returns-clause-grown c = grown_pages_serve

pub returns-clause-made : goal.returns-clause-made
returns-clause-made c = tree_pages_serve

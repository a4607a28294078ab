use Rattle.std.proofs.Common.{sym, subst}
use Rattle.posting_tree.specs.Adding.{IsPostLeaf}
use Rattle.gin_vacuum.proofs.sweeping.tree_way_on.Goals as goal

pub returns-in-PostLeaf : goal.returns-in-PostLeaf
returns-in-PostLeaf c = subst IsPostLeaf (sym c.in-PostLeaf.is) (IsPostLeaf.leaf _ _)

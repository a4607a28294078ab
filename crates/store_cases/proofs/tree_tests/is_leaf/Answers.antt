use Rattle.std.proofs.Common.{sym, subst}
use Rattle.posting_tree.specs.Adding.{IsPostLeaf}
use Rattle.store_cases.proofs.tree_tests.is_leaf.Goals as goal

pub returns-in-PostLeaf : goal.returns-in-PostLeaf
returns-in-PostLeaf c t =
    subst IsPostLeaf (sym c.in-PostLeaf.is) (IsPostLeaf.leaf c.in-PostLeaf.high c.in-PostLeaf.items)

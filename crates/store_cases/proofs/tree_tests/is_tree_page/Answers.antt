use Rattle.std.proofs.Common.{sym, subst, inl, inr}
use Rattle.posting_tree.specs.Reading.{IsPostBody}
use Rattle.store_cases.proofs.tree_tests.is_tree_page.Goals as goal

pub returns-in-PostLeaf : goal.returns-in-PostLeaf
returns-in-PostLeaf c t = elim c.in-PostLeaf.is [
  | inl x ↦ subst IsPostBody (sym x.2) (IsPostBody.leaf x.0 x.1)
  | inr x ↦ subst IsPostBody (sym x.1) (IsPostBody.inner x.0)
]

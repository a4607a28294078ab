use Rattle.core_state.proofs.HeadChanges.{none_holds}
use Rattle.core_state.proofs.tree_pages.makes_root.Goals as goal

pub returns-in_default : goal.returns-in_default
returns-in_default c = (
  λ e. absurd (cc),
  λ w. absurd (none_holds c.leaf_left.result c.in_default.not-Some c.leaf_left.ensures.none w.high w.entries w.then
      w.left),
)

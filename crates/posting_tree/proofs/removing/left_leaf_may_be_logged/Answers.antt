use Rattle.posting_tree.proofs.LeftLogged.{left_logged}
use Rattle.posting_tree.proofs.removing.left_leaf_may_be_logged.Goals as goal

pub returns : goal.returns
returns c = left_logged

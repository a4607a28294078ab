use Rattle.posting_tree.proofs.LoggedPages.{first_logged, added_logged, grown_logged}
use Rattle.posting_tree.proofs.SplitsLogged.{split_logged}
use Rattle.posting_tree.proofs.laws.pages_may_be_logged.Goals as goal

pub returns : goal.returns
returns c = record { first = first_logged; added = added_logged; grown = grown_logged; split = split_logged }

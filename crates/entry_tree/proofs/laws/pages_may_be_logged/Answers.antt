use Rattle.entry_tree.proofs.LoggedPages.{grown_logged, added_logged}
use Rattle.entry_tree.proofs.SplitPages.{split_logged}
use Rattle.entry_tree.proofs.laws.pages_may_be_logged.Goals as goal

pub returns : goal.returns
returns c = record { grown = grown_logged; added = added_logged; split = split_logged }

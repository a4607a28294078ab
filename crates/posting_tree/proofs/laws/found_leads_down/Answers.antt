use Rattle.posting_tree.proofs.LoggedPages.{leads_down}
use Rattle.posting_tree.proofs.laws.found_leads_down.Goals as goal

pub returns : goal.returns
returns c = leads_down

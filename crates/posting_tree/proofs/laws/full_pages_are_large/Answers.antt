use Rattle.posting_tree.proofs.FullPages.{leaf_is_large, inner_is_large}
use Rattle.posting_tree.proofs.laws.full_pages_are_large.Goals as goal

pub returns : goal.returns
returns c = record { leaf = leaf_is_large; inner = inner_is_large }

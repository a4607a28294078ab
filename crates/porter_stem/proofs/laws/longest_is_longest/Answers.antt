use Rattle.porter_stem.proofs.Longest.{longest_is_longest}
use Rattle.porter_stem.proofs.laws.longest_is_longest.Goals as goal

pub returns : goal.returns
returns c = longest_is_longest

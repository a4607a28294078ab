use Rattle.porter_stem.proofs.Lengths.{stem_length}
use Rattle.porter_stem.proofs.laws.stem_is_no_longer.Goals as goal

pub returns : goal.returns
returns c = stem_length

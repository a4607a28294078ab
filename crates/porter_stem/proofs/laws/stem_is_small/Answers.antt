use Rattle.porter_stem.proofs.Small.{stem_small}
use Rattle.porter_stem.proofs.laws.stem_is_small.Goals as goal

pub returns : goal.returns
returns c = stem_small

use Rattle.porter_stem.proofs.Some.{stem_some}
use Rattle.porter_stem.proofs.laws.stem_is_some.Goals as goal

pub returns : goal.returns
returns c = stem_some

use Rattle.porter_stem.proofs.Texts.{knows_all}
use Rattle.porter_stem.proofs.laws.porter_knows_all.Goals as goal

pub returns : goal.returns
returns c = knows_all

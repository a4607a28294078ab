use Rattle.std.proofs.Common.{refl}
use Rattle.porter_stem.proofs.laws.tables_are_apart.Goals as goal

pub returns : goal.returns
returns c = (refl, refl, refl, refl, refl, refl, refl)

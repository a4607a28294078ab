use Rattle.porter_stem.proofs.laws.stems_are_worked.Goals as goal
use Rattle.std.proofs.Common.{refl}

pub returns : goal.returns
returns c = refl

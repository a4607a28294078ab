use Rattle.ts_make.proofs.Removal.{removal_sound}
use Rattle.ts_make.proofs.laws.removal_is_sound.Goals as goal

pub returns : goal.returns
returns c = removal_sound

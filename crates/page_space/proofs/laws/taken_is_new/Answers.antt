use Rattle.page_space.proofs.NewPages.{taken_new}
use Rattle.page_space.proofs.laws.taken_is_new.Goals as goal

pub returns : goal.returns
returns c = taken_new

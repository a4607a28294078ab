use Rattle.core_state.proofs.Monotone.{valid_more}
use Rattle.core_state.proofs.laws.valid_is_monotone.Goals as goal

pub returns : goal.returns
returns c = valid_more

use Rattle.core_state.proofs.Keys.{keys_one}
use Rattle.core_state.proofs.laws.keys_are_one.Goals as goal

pub returns : goal.returns
returns c = keys_one

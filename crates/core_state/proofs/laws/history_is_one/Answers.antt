use Rattle.core_state.proofs.Histories.{history_one, legal_history}
use Rattle.core_state.proofs.laws.history_is_one.Goals as goal

pub returns-clause-one : goal.returns-clause-one
returns-clause-one c = history_one

pub returns-clause-legal : goal.returns-clause-legal
returns-clause-legal c = legal_history

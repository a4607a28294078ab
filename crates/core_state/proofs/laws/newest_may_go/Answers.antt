use Rattle.core_state.proofs.Newest.{legal_less, keeps_less}
use Rattle.core_state.proofs.laws.newest_may_go.Goals as goal

pub returns-clause-legal : goal.returns-clause-legal
returns-clause-legal c = legal_less

pub returns-clause-keeps : goal.returns-clause-keeps
returns-clause-keeps c = keeps_less

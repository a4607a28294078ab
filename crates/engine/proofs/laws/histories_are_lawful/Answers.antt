-- The history of a store is a lawful one.
use Rattle.core_state.proofs.LawfulHistories.{history_lawful}
use Rattle.engine.proofs.laws.histories_are_lawful.Goals as goal

pub returns : goal.returns
returns g c = λ found H s f. history_lawful f.log H f.begins.log_of.legal f.begins.log_of.history

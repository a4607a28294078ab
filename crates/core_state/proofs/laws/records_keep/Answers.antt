use Rattle.core_state.proofs.LawsHold.{records}
use Rattle.core_state.proofs.laws.records_keep.Goals as goal

pub returns : goal.returns
returns c = records

use Rattle.core_vacuum.proofs.OneEntry.{entries_hold}
use Rattle.core_vacuum.proofs.entries.entries_stand.Goals as goal

pub returns : goal.returns
returns c = entries_hold

use Rattle.doc_heap.proofs.HeapSheets.{placed_logged, marked_logged}
use Rattle.doc_heap.proofs.laws.pages_may_be_logged.Goals as goal

pub returns-clause-placed : goal.returns-clause-placed
returns-clause-placed c = placed_logged

pub returns-clause-marked : goal.returns-clause-marked
returns-clause-marked c = marked_logged

use Rattle.core_vacuum.proofs.HeapPages.{heap_pages_hold}
use Rattle.core_vacuum.proofs.heaps.heap_pages_stand.Goals as goal

pub returns : goal.returns
returns c = heap_pages_hold

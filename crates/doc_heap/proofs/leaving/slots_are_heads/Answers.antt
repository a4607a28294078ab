use Rattle.doc_heap.proofs.Leavings.{slot_is_head}
use Rattle.doc_heap.proofs.leaving.slots_are_heads.Goals as goal

pub returns : goal.returns
returns c = slot_is_head

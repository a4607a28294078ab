use Rattle.std.proofs.Common.{refl}
use Rattle.doc_heap.proofs.SlotLists.{used_within}
use Rattle.page_types.specs.Parts.{head_shown}
use Rattle.core_state.specs.Documents.{slot_of}
use Rattle.doc_heap.specs.Inner.Freeing.{FreesOne}
use Rattle.doc_heap.proofs.Leavings.{was_used}
use Rattle.doc_heap.proofs.leaving.free_one.Goals as goal

pub free-requires : goal.free-requires
free-requires c =
    let h = was_used head_shown c.get.result _ c.is_none.result c.get.ensures c.is_none.ensures c.if-is_none.false in
    used_within c.args.slots.now (slot_of c.args.item) h.0 h.1

pub returns : goal.returns
returns c =
    let h = was_used head_shown c.get.result _ c.is_none.result c.get.ensures c.is_none.ensures c.if-is_none.false in
    FreesOne.freed h.0 h.1 c.free.ensures refl

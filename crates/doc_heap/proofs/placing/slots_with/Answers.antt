use Rattle.std.proofs.Common.{◌<◌, ◌^◌, length, ap, arith}
use Rattle.page_types.specs.declared.page.Head.{Head}
use Rattle.doc_heap.specs.HeapPages.{GetsHead}
use Rattle.doc_heap.proofs.HeapSheets.{put_length, gets_head}
use Rattle.doc_heap.proofs.placing.slots_with.Goals as goal

pub returns-clause-gets : goal.returns-clause-gets
returns-clause-gets c =
    gets_head c.args.page.now c.args.head.now _ c.lowest_free-slot.result c.in_ok-slots.slots c.put.new.slots
    c.in_ok-slots.ensures c.by_reference-head.ensures c.lowest_free-slot.ensures.lowest
    c.lowest_free-slot.ensures.in_row c.in_ok-put.ensures

pub returns-clause-size : goal.returns-clause-size
returns-clause-size c =
    let gets : GetsHead c.args.page.now c.args.head.now c.lowest_free-slot.result c.put.new.slots =
    gets_head c.args.page.now c.args.head.now _ c.lowest_free-slot.result c.in_ok-slots.slots c.put.new.slots
    c.in_ok-slots.ensures c.by_reference-head.ensures c.lowest_free-slot.ensures.lowest
    c.lowest_free-slot.ensures.in_row c.in_ok-put.ensures in
    let vector : length c.args.head.now.vector < 2 ^ 63 =
    omega (arith, ap (λ (h : Head). length h.vector) c.by_reference-head.ensures, c.by_reference-head.type_inv) in
    put_length c.args.page.now c.lowest_free-slot.result c.args.head.now c.put.new.slots c.requires vector gets

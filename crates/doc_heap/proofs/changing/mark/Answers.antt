use Rattle.std.proofs.Common.{◌≡◌}
use Rattle.doc_heap.proofs.HeapSheets.{marked_slot, marked_page}
use Rattle.doc_heap.proofs.changing.mark.Goals as goal

pub returns-in-Heap-clause-marked : goal.returns-in-Heap-clause-marked
returns-in-Heap-clause-marked c =
    let at : c.from.result ≡ c.args.slot = cc in
    marked_slot c.args.page.now c.in-Heap.slots c.mark_slot.new.slots c.args.slot c.from.result c.args.xid
    c.in-Heap.is at c.mark_slot.ensures

pub returns-in-Heap-clause-is_page : goal.returns-in-Heap-clause-is_page
returns-in-Heap-clause-is_page c =
    let at : c.from.result ≡ c.args.slot = cc in
    marked_page c.args.page.now c.in-Heap.slots c.mark_slot.new.slots c.args.slot c.from.result c.args.xid
    c.in-Heap.is at c.ranges.xid.fits c.mark_slot.ensures c.requires

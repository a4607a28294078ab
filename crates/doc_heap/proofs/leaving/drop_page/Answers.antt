use Rattle.std.proofs.Common.{◌≡◌}
use Rattle.doc_heap.proofs.Leavings.{begun_slot, begun_page}
use Rattle.doc_heap.proofs.leaving.drop_page.Goals as goal

pub returns-in-Heap-clause-dropped : goal.returns-in-Heap-clause-dropped
returns-in-Heap-clause-dropped c =
    let at : c.from.result ≡ c.args.slot = cc in
    begun_slot c.args.chain c.args.next c.args.page.now c.in-Heap.slots c.begin_chain.new.slots c.args.slot
    c.from.result c.in-Heap.is at c.begin_chain.ensures

pub returns-in-Heap-clause-is_page : goal.returns-in-Heap-clause-is_page
returns-in-Heap-clause-is_page c = λ small.
    let at : c.from.result ≡ c.args.slot = cc in
    begun_page c.args.chain c.args.next c.args.page.now c.in-Heap.slots c.begin_chain.new.slots c.args.slot
    c.from.result c.in-Heap.is at c.begin_chain.ensures small c.requires

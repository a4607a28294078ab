use Rattle.std.proofs.Common.{◌≡◌}
use Rattle.doc_heap.proofs.HeapSheets.{used_on, freed_slot, freed_page}
use Rattle.doc_heap.proofs.changing.free.Goals as goal

pub free-requires : goal.free-requires
free-requires c =
    let at : c.from.result ≡ c.args.slot = cc in
    used_on c.args.page.now c.in-Heap.slots c.args.slot c.from.result c.in-Heap.is at c.requires

pub returns-in-Heap-clause-freed : goal.returns-in-Heap-clause-freed
returns-in-Heap-clause-freed c =
    let at : c.from.result ≡ c.args.slot = cc in
    freed_slot c.args.page.now c.in-Heap.slots c.free.new.self c.args.slot c.from.result
    c.in-Heap.is at c.free.ensures c.requires

pub returns-in-Heap-clause-is_page : goal.returns-in-Heap-clause-is_page
returns-in-Heap-clause-is_page c =
    let at : c.from.result ≡ c.args.slot = cc in
    freed_page c.args.page.now c.in-Heap.slots c.free.new.self c.args.slot c.from.result
    c.in-Heap.is at c.free.ensures c.requires

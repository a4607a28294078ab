use Rattle.std.proofs.Common.{refl}
use Rattle.doc_heap.proofs.Leavings.{page_same}
use Rattle.doc_heap.proofs.leaving.free_items.Goals as goal

pub returns-in-Heap-clause-freed : goal.returns-in-Heap-clause-freed
returns-in-Heap-clause-freed c = record {
  slots = c.in-Heap.slots;
  new_slots = c.free_all.new.slots;
  was = c.in-Heap.is;
  frees = c.free_all.ensures.frees;
  after = refl;
}

pub returns-in-Heap-clause-some : goal.returns-in-Heap-clause-some
returns-in-Heap-clause-some c =
    page_same c.args.page.now c.in-Heap.slots c.free_all.new.slots c.in-Heap.is c.free_all.result
    c.free_all.ensures.some

pub returns-in-Heap-clause-is_page : goal.returns-in-Heap-clause-is_page
returns-in-Heap-clause-is_page c = c.free_all.ensures.is_page c.args.page.now c.in-Heap.is

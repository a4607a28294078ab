use Rattle.std.proofs.Common.{arith}
use Rattle.doc_heap.proofs.HeapSheets.{has_room, is_placed, placed_page}
use Rattle.doc_heap.proofs.placing.place.Goals as goal

pub overflow_cast-result : goal.overflow_cast-result
overflow_cast-result c =
    let placed = is_placed c.args.page.now c.args.head.now c.in_ok-slots.slot c.right_link.result c.in_ok-slots.slots
    c.in_ok-slots.ensures.gets (omega arith) c.right_link.ensures in
    omega (arith, placed.below)

pub returns-clause-placed : goal.returns-clause-placed
returns-clause-placed c =
    is_placed c.args.page.now c.args.head.now c.in_ok-slots.slot c.right_link.result c.in_ok-slots.slots
    c.in_ok-slots.ensures.gets (omega arith) c.right_link.ensures

pub returns-clause-full : goal.returns-clause-full
returns-clause-full c = (
  λ e. absurd cc,
  λ full. absurd (has_room c.args.page.now c.in_ok-slots.slot c.args.head.now c.in_ok-slots.slots
      c.in_ok-slots.ensures.gets (omega arith) full),
)

pub returns-clause-is_page : goal.returns-clause-is_page
returns-clause-is_page c =
    placed_page c.args.page.now c.args.head.now _ c.in_ok-slots.slot
    (is_placed c.args.page.now c.args.head.now c.in_ok-slots.slot c.right_link.result c.in_ok-slots.slots
    c.in_ok-slots.ensures.gets (omega arith) c.right_link.ensures)

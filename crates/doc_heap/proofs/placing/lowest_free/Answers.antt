use Rattle.std.proofs.Common.{arith}
use Rattle.page_types.proofs.Joining.{slot_past}
use Rattle.doc_heap.proofs.placing.lowest_free.Goals as goal

pub returns-clause-lowest : goal.returns-clause-lowest
returns-clause-lowest c = record {
  free = slot_past c.args.slots.now c.len.result (omega arith);
  lower = λ j lt. c.loop-k.invariant j (omega (arith, lt, c.loop-k-test.false, c.len.ensures, c.len-k-end.ensures));
}

use Rattle.std.proofs.Common.{arith}
use Rattle.page_code.proofs.Counting.{counting_ends}
use Rattle.page_code.proofs.writing.count_items.Goals as goal

pub overflow_add-count : goal.overflow_add-count
overflow_add-count c = let below = c.loop-byte.invariant.below in omega (arith, below)

pub returns : goal.returns
returns c = counting_ends c.args.items.now c.loop-byte.byte-index c.loop-byte.count c.loop-byte.invariant
    (rw c.as_slice-byte-items.ensures at c.loop-byte-test.false)

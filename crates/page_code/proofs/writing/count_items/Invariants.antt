use Rattle.page_code.proofs.Counting.{HasCounted}
use Rattle.page_code.proofs.writing.count_items.Given as goal

abbrev pub invariant-loop-byte : goal.invariant-loop-byte
invariant-loop-byte l = HasCounted l.items l.byte-index l.count

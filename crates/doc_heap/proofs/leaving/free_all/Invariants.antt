use Rattle.std.proofs.Common.{take}
use Rattle.doc_heap.proofs.Leavings.{Freed}
use Rattle.doc_heap.proofs.leaving.free_all.Given as goal

abbrev pub invariant-loop-k : goal.invariant-loop-k
invariant-loop-k l = Freed l.initial.slots (take l.k l.items) l.slots l.freed

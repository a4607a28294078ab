use Rattle.std.proofs.Common.{◌≢◌, ◌<◌, ℕ, None}
use Rattle.page_types.specs.Views.{slot_at}
use Rattle.doc_heap.proofs.placing.lowest_free.Given as goal

abbrev pub invariant-loop-k : goal.invariant-loop-k
invariant-loop-k l = (j : ℕ) → j < l.k → slot_at l.slots j ≢ None

use Rattle.std.proofs.Common.{length, map}
use Rattle.pending_list.proofs.PackedRows.{IsPacking}
use Rattle.pending_list.proofs.packing.pack.Given as goal

abbrev pub invariant-loop-rest : goal.invariant-loop-rest
invariant-loop-rest l =
    IsPacking l.item (map (λ key. key.items) l.keys) l.pages.items (map (λ key. key.items) l.rest)

abbrev pub decreases-loop-rest : goal.decreases-loop-rest
decreases-loop-rest l = length l.rest

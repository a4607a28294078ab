use Rattle.std.proofs.Common.{◌≡◌, map, take}
use Rattle.pending_list.proofs.packing.push_row.Given as goal

abbrev pub invariant-loop-key : goal.invariant-loop-key
invariant-loop-key l = l.pieces ≡ take l.key-index (map (λ key. key.items) l.keys)

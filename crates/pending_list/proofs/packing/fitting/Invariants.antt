use Rattle.std.proofs.Common.{◌≡◌, ◌≢◌, ◌+◌, ◌≤◌, map, take}
use Rattle.page_types.specs.Numbers.{most_body}
use Rattle.pending_list.specs.Packing.{row_length}
use Rattle.pending_list.proofs.packing.fitting.Given as goal

abbrev pub invariant-loop-k : goal.invariant-loop-k
invariant-loop-k l =
    (l.size ≡ l.used + row_length (take l.k (map (λ key. key.items) l.keys)))
    × (l.k ≢ 0 → l.size ≤ most_body) × (l.size ≤ most_body + 6)

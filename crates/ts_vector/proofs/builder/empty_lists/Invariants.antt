use Rattle.std.proofs.Common.{◌≡◌, [], length, map, replicate}
use Rattle.ts_vector.proofs.builder.empty_lists.Given as goal

abbrev pub invariant-loop : goal.invariant-loop
invariant-loop l = record {
  lists : map (λ list. list.items) l.lists.items ≡ replicate l.counter [];
  count : length l.lists.items ≡ l.counter;
}

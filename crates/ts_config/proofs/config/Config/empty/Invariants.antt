use Rattle.std.proofs.Common.{◌≡◌, length, map, replicate, []}
use Rattle.ts_config.proofs.config.Config.empty.Given as goal

abbrev pub invariant-loop : goal.invariant-loop
invariant-loop l = record {
  lists : map (λ v. v.items) l.lists.items ≡ replicate l.counter [];
  count : length l.lists.items ≡ l.counter;
}

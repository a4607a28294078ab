use Rattle.std.proofs.Common.{◌≡◌, [], map, replicate}
use Rattle.gin_hits.proofs.hits.Hits.new.Given as goal

abbrev pub invariant-loop : goal.invariant-loop
invariant-loop l = map (λ v. v.items) l.by_key.items ≡ replicate l.counter []

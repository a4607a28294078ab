use Rattle.std.proofs.Common.{ℕ, ◌<◌, length}
use Rattle.std.specs.Prelude.{Contains}
use Rattle.std.specs.List.{All}
use Rattle.gin_hits.proofs.order.in_order.Given as goal

abbrev pub invariant-loop-k : goal.invariant-loop-k
invariant-loop-k l = record {
  each : All (λ (j : ℕ). j < length l.keys) l.order.items;
  all : (j : ℕ) → j < l.k → Contains l.order.items j;
}

use Rattle.std.proofs.Common.{ℕ, ◌<◌, ◌≤◌, get_or}
use Rattle.std.specs.Prelude.{Contains}
use Rattle.ts_base.specs.Vectors.{Position, Entry}
use Rattle.ts_match.proofs.layout.last_in.Given as goal

pub record SoFar (l : goal.Live-loop-k) : Type 0 where
  pub each : (i : ℕ) (e : Entry) (p : Position) → l.fn.found.first ≤ i → i < l.k
      → Contains (get_or l.vector i e).positions p → p.at ≤ l.last
  pub small : l.last ≤ 16383

abbrev pub invariant-loop-k : goal.invariant-loop-k
invariant-loop-k l = SoFar l

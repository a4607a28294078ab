use Rattle.std.proofs.Common.{◌≤◌, ◌⊎◌}
use Rattle.std.specs.Prelude.{Contains}
use Rattle.ts_base.specs.Vectors.{Position}
use Rattle.ts_match.proofs.Walks.{positions_in}
use Rattle.ts_match.proofs.encoded.last_in.Given as goal

pub record SoFar (l : goal.Live-loop-position) : Type 0 where
  pub each : (p : Position) → Contains (positions_in l.vector l.fn.found.first l.fn.found.end) p
      → (p.at ≤ l.last) ⊎ Contains l.position-iterator p
  pub small : l.last ≤ 16383

abbrev pub invariant-loop-position : goal.invariant-loop-position
invariant-loop-position l = SoFar l

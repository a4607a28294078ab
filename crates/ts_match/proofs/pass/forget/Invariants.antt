use Rattle.std.proofs.Common.{◌≡◌, ℕ, ◌<◌, get_or, None, vec_len}
use Rattle.ts_match.specs.declared.pass.Bounds.{Bounds}
use Rattle.ts_match.proofs.pass.forget.Given as goal

pub record SoFar (l : goal.Live-loop-k) : Type 0 where
  pub below : (k : ℕ) (b : Bounds) → k < l.k → get_or l.bounds.items k b ≡ record { first = None; end = None }
  pub len : vec_len l.bounds ≡ vec_len l.initial.bounds

abbrev pub invariant-loop-k : goal.invariant-loop-k
invariant-loop-k l = SoFar l

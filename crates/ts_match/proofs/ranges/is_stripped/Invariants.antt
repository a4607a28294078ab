use Rattle.std.proofs.Common.{◌≡◌, ℕ, ◌<◌, length, get_or}
use Rattle.ts_base.specs.Vectors.{Entry}
use Rattle.ts_match.proofs.ranges.is_stripped.Given as goal

abbrev pub invariant-loop-k : goal.invariant-loop-k
invariant-loop-k l = (j : ℕ) (d : Entry) → j < l.k → length (get_or l.vector j d).positions ≡ 0

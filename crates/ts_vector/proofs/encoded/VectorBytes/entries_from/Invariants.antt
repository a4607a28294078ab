use Rattle.std.proofs.Common.{◌≡◌, ◌-◌, ◌≤◌, drop}
use Rattle.ts_vector.proofs.encoded.VectorBytes.entries_from.Given as goal

pub record Skipping (l : goal.Live-loop-skipped) : Type 0 where
  pub left : l.entries ≡ drop l.skipped l.self
  pub within : l.skipped ≤ l.first

abbrev pub invariant-loop-skipped : goal.invariant-loop-skipped
invariant-loop-skipped l = Skipping l

abbrev pub decreases-loop-skipped : goal.decreases-loop-skipped
decreases-loop-skipped l = l.first - l.skipped

use Rattle.std.proofs.Common.{◌≡◌, ℕ, ◌-◌, ◌<◌, ◌≤◌, false, get_or}
use Rattle.ts_base.specs.Vectors.{Entry}
use Rattle.ts_match.specs.declared.ranges.TheConstants.{FARTHEST}
use Rattle.ts_match.proofs.Lookups.{meets_at}
use Rattle.ts_match.proofs.ranges.stands.Given as goal

abbrev pub invariant-loop-k : goal.invariant-loop-k
invariant-loop-k l = (j : ℕ) (d : Entry) → l.fn.found.first ≤ j → j < l.k
    → meets_at l.operand (l.sum - FARTHEST) (get_or l.vector j d) ≡ false

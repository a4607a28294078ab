use Rattle.std.proofs.Common.{◌≡◌, ℕ, ◌<◌, ◌≤◌, false, get_or}
use Rattle.std.specs.List.{list_any}
use Rattle.ts_base.specs.Vectors.{Position, Entry}
use Rattle.ts_match.specs.Meaning.{asks_for}
use Rattle.ts_match.proofs.ranges.meets.Given as goal

abbrev pub invariant-loop-k : goal.invariant-loop-k
invariant-loop-k l = (j : ℕ) (d : Entry) → l.fn.found.first ≤ j → j < l.k
    → list_any (λ (p : Position). asks_for l.operand.weights p.weight) (get_or l.vector j d).positions ≡ false

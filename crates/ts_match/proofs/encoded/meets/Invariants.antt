use Rattle.std.proofs.Common.{◌≡◌}
use Rattle.std.specs.List.{list_any}
use Rattle.ts_base.specs.Vectors.{Position}
use Rattle.ts_match.specs.Meaning.{asks_for}
use Rattle.ts_match.proofs.Walks.{positions_in}
use Rattle.ts_match.proofs.encoded.meets.Given as goal

abbrev pub invariant-loop-position : goal.invariant-loop-position
invariant-loop-position l =
    list_any (λ (p : Position). asks_for l.operand.weights p.weight) l.position-iterator
    ≡ list_any (λ (p : Position). asks_for l.operand.weights p.weight)
    (positions_in l.vector l.fn.found.first l.fn.found.end)

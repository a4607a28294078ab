use Rattle.std.proofs.Common.{◌≡◌, ◌-◌}
use Rattle.std.specs.List.{list_any}
use Rattle.ts_match.specs.declared.ranges.TheConstants.{FARTHEST}
use Rattle.ts_match.proofs.Searches.{here}
use Rattle.ts_match.proofs.Walks.{positions_in}
use Rattle.ts_match.proofs.encoded.stands.Given as goal

abbrev pub invariant-loop-position : goal.invariant-loop-position
invariant-loop-position l =
    list_any (here (l.sum - FARTHEST) l.operand.weights) l.position-iterator
    ≡ list_any (here (l.sum - FARTHEST) l.operand.weights) (positions_in l.vector l.fn.found.first l.fn.found.end)

use Rattle.std.proofs.Common.{◌≡◌, ◌++◌}
use Rattle.ts_vector.specs.Changes.{stripped}
use Rattle.ts_vector.proofs.changes.without_positions.Given as goal

abbrev pub invariant-loop-entry : goal.invariant-loop-entry
invariant-loop-entry l = l.made ++ stripped l.entry-iterator ≡ stripped l.entries

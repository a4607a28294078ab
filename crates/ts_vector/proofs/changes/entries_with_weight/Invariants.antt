use Rattle.std.proofs.Common.{◌≡◌, ◌++◌}
use Rattle.ts_vector.specs.Changes.{reweighted}
use Rattle.ts_vector.proofs.changes.entries_with_weight.Given as goal

abbrev pub invariant-loop-entry : goal.invariant-loop-entry
invariant-loop-entry l = l.made ++ reweighted l.weight l.entry-iterator ≡ reweighted l.weight l.entries

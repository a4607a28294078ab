use Rattle.std.proofs.Common.{◌≡◌, ◌≤◌, ◌++◌}
use Rattle.ts_vector.specs.Changes.{IsGreatest}
use Rattle.ts_vector.proofs.changes.greatest.Given as goal

abbrev pub invariant-loop-entry : goal.invariant-loop-entry
invariant-loop-entry l =
    IsGreatest l.yielded l.greatest × (l.greatest ≤ 16383) × (l.yielded ++ l.entry-iterator ≡ l.entries)

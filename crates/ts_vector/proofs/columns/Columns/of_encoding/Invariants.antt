use Rattle.std.proofs.Common.{◌≡◌, ◌++◌}
use Rattle.ts_vector.specs.Inner.Columns.{column_entries, AreColumns}
use Rattle.ts_vector.proofs.columns.Columns.of_encoding.Given as goal

pub record SoFar (l : goal.Live-loop-entry) : Type 0 where
  pub are : AreColumns l.lexemes.items l.positions.items l.ends.items
  pub read : column_entries l.lexemes.items l.positions.items l.ends.items ++ l.entry-iterator ≡ l.encoded

abbrev pub invariant-loop-entry : goal.invariant-loop-entry
invariant-loop-entry l = SoFar l

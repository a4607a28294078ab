use Rattle.std.proofs.Common.{◌≡◌, ◌++◌}
use Rattle.ts_vector.specs.Pairs.{pairs_of}
use Rattle.ts_vector.proofs.gathered.Gathered.columns.Given as goal

abbrev pub invariant-loop-lexeme : goal.invariant-loop-lexeme
invariant-loop-lexeme l = l.columns ++ pairs_of l.lexeme-iterator ≡ l.self

use Rattle.ts_match.proofs.Walks.{Walked}
use Rattle.ts_match.proofs.encoded.find.Given as goal

abbrev pub invariant-loop-entry : goal.invariant-loop-entry
invariant-loop-entry l = Walked l.vector l.operand l.first l.end l.entry-iterator

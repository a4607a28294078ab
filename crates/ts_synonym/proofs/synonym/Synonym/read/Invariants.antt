use Rattle.ts_synonym.proofs.Reading.{Progress}
use Rattle.ts_synonym.proofs.synonym.Synonym.read.Given as goal

abbrev pub invariant-loop-line : goal.invariant-loop-line
invariant-loop-line l =
    (goal.iterator-loop-line).can_next l.line-iterator × (goal.iterator-loop-line).is_finite l.line-iterator
    × Progress l.sensitive l.text l.line-iterator l.synonym l.number

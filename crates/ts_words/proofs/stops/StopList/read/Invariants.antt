use Rattle.ts_words.proofs.Lists.{Progress}
use Rattle.ts_words.proofs.stops.StopList.read.Given as goal

abbrev pub invariant-loop-line : goal.invariant-loop-line
invariant-loop-line l =
    (goal.iterator-loop-line).can_next l.line-iterator × (goal.iterator-loop-line).is_finite l.line-iterator
    × Progress l.text l.line-iterator l.stops l.number

use Rattle.ts_thesaurus.proofs.Progress.{Progress}
use Rattle.ts_thesaurus.proofs.thesaurus.Thesaurus.read.Given as goal

abbrev pub invariant-loop-line : goal.invariant-loop-line
invariant-loop-line g l =
    (goal.iterator-loop-line g).can_next l.line-iterator × (goal.iterator-loop-line g).is_finite l.line-iterator
    × Progress (g.D.Dictionary.answer l.sub) l.text l.line-iterator l.thesaurus l.number

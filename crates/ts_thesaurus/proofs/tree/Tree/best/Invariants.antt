use Rattle.std.proofs.Common.{◌≡◌, drop, map}
use Rattle.ts_base.specs.Dictionary.{answer_value}
use Rattle.ts_thesaurus.specs.Inner.States.{steps_of, last_of}
use Rattle.ts_thesaurus.specs.Inner.Walks.{best_on}
use Rattle.ts_thesaurus.proofs.tree.Tree.best.Given as goal

abbrev pub invariant-loop-answer : goal.invariant-loop-answer
invariant-loop-answer l =
    best_on (steps_of l.self.states.items) (last_of l.self.states.items) 0 (last_of l.self.states.items 0)
    (map answer_value l.answers)
    ≡ best_on (steps_of l.self.states.items) (last_of l.self.states.items) l.state l.best
    (map answer_value (drop l.answer-index l.answers))

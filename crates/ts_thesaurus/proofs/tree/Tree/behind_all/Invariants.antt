use Rattle.std.proofs.Common.{◌≡◌, drop, map}
use Rattle.ts_base.specs.Dictionary.{answer_value}
use Rattle.ts_thesaurus.specs.Inner.States.{steps_of}
use Rattle.ts_thesaurus.specs.Inner.Walks.{behind_all}
use Rattle.ts_thesaurus.proofs.tree.Tree.behind_all.Given as goal

abbrev pub invariant-loop-answer : goal.invariant-loop-answer
invariant-loop-answer l =
    behind_all (steps_of l.self.states.items) 0 (map answer_value l.answers)
    ≡ behind_all (steps_of l.self.states.items) l.state (map answer_value (drop l.answer-index l.answers))

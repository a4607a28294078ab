use Rattle.std.proofs.Common.{◌≡◌, drop}
use Rattle.ts_thesaurus.specs.Rules.{lexemes_of}
use Rattle.ts_thesaurus.specs.Inner.States.{steps_of}
use Rattle.ts_thesaurus.specs.Inner.Walks.{behind_words}
use Rattle.ts_thesaurus.proofs.tree.Tree.behind_words.Given as goal

abbrev pub invariant-loop-word : goal.invariant-loop-word
invariant-loop-word l = behind_words (steps_of l.self.states.items) l.from (lexemes_of l.found)
    ≡ behind_words (steps_of l.self.states.items) l.state (lexemes_of (drop l.word-index l.found))

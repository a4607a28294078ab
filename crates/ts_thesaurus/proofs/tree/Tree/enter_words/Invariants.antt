use Rattle.std.proofs.Common.{take}
use Rattle.ts_thesaurus.specs.Rules.{lexemes_of}
use Rattle.ts_thesaurus.specs.Inner.States.{EntersWords}
use Rattle.ts_thesaurus.proofs.tree.Tree.enter_words.Given as goal

abbrev pub invariant-loop-word : goal.invariant-loop-word
invariant-loop-word l =
    EntersWords l.initial.self.states.items l.self.states.items l.from (lexemes_of (take l.word-index l.found)) l.state

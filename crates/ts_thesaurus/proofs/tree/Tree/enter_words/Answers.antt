use Rattle.std.proofs.Common.{take, subst}
use Rattle.ts_thesaurus.specs.Rules.{lexemes_of}
use Rattle.ts_thesaurus.specs.Inner.Tree.{word_letter}
use Rattle.ts_thesaurus.specs.Inner.States.{Enters}
use Rattle.ts_thesaurus.proofs.Entering.{words_stand, words_next}
use Rattle.ts_thesaurus.proofs.tree.Tree.enter_words.Goals as goal

pub enter-requires : goal.enter-requires
enter-requires c =
    words_stand (lexemes_of (take c.loop-word.word-index c.args.found.now)) c.args.self.now.states.items
    c.loop-word.self.states.items c.args.from c.loop-word.state c.loop-word.invariant c.requires

pub loop-word-preserved : goal.loop-word-preserved
loop-word-preserved c =
    let before = c.loop-word.self.states.items in
    let after = c.enter.new.self.states.items in
    words_next c.args.found.now c.loop-word.word-index c.word-item.result c.args.self.now.states.items before after
    c.args.from c.loop-word.state c.in_ok-state.state c.loop-word-test.true
    c.word-item.is c.loop-word.invariant (subst (λ w. Enters before after c.loop-word.state
    (word_letter w) c.in_ok-state.state) c.as_str.ensures.value c.in_ok-state.ensures)

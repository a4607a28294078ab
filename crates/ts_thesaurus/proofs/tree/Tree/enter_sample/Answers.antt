use Rattle.ts_thesaurus.specs.Rules.{lexemes_of}
use Rattle.ts_thesaurus.proofs.Entering.{words_stand}
use Rattle.ts_thesaurus.proofs.tree.Tree.enter_sample.Goals as goal

pub enter-requires-in-Lexemes : goal.enter-requires-in-Lexemes
enter-requires-in-Lexemes c =
    words_stand (lexemes_of c.deref.result.now) c.args.self.now.states.items c.enter_words.new.self.states.items
    c.args.state c.in_ok-state-in-Lexemes.state c.in_ok-state-in-Lexemes.ensures c.requires

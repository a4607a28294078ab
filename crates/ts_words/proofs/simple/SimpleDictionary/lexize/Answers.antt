use Rattle.ts_words.proofs.Answers.{simple_valid}
use Rattle.ts_words.proofs.simple.SimpleDictionary.lexize.Goals as goal

pub returns-in_err-lowered-clause-named : goal.returns-in_err-lowered-clause-named
returns-in_err-lowered-clause-named c = simple_valid c.args.self.now.stops c.args.self.now.accept c.args.word.now
    c.requires.some c.requires.most c.utf8.word

pub returns-in_err-push-clause-named : goal.returns-in_err-push-clause-named
returns-in_err-push-clause-named c = simple_valid c.args.self.now.stops c.args.self.now.accept c.args.word.now
    c.requires.some c.requires.most c.utf8.word

pub returns-clause-named : goal.returns-clause-named
returns-clause-named c = simple_valid c.args.self.now.stops c.args.self.now.accept c.args.word.now c.requires.some
    c.requires.most c.utf8.word

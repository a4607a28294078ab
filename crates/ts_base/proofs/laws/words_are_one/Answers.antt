use Rattle.ts_base.proofs.LineWords as lemmas
use Rattle.ts_base.proofs.laws.words_are_one.Goals as goal

pub returns : goal.returns
returns c = lemmas.words_are_one

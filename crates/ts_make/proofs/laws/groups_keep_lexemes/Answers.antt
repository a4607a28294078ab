use Rattle.ts_make.proofs.Trees.{groups_keep_lexemes}
use Rattle.ts_make.proofs.laws.groups_keep_lexemes.Goals as goal

pub returns : goal.returns
returns c = groups_keep_lexemes

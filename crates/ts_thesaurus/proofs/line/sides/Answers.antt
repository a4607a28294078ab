use Rattle.std.proofs.Common.{lit<}
use Rattle.std.proofs.lemmas.Str.Pattern.{split_parts}
use Rattle.ts_thesaurus.proofs.Sides.{cut_some, cut_none}
use Rattle.ts_thesaurus.proofs.line.sides.Goals as goal

pub returns-clause-some : goal.returns-clause-some
returns-clause-some c = cut_some c.args.line.now c.split_once.result
    (split_parts 58 c.args.line.now c.split_once.result c.split_once.ensures.cases (lit< tt))

pub returns-clause-none : goal.returns-clause-none
returns-clause-none c = cut_none c.args.line.now c.split_once.result
    (split_parts 58 c.args.line.now c.split_once.result c.split_once.ensures.cases (lit< tt))

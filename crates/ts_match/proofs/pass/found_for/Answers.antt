use Rattle.std.proofs.Common.{get_or, subst}
use Rattle.std.proofs.lemmas.List.{get_or_read}
use Rattle.ts_match.specs.Inner.Ranges.{NamesRange}
use Rattle.ts_match.proofs.pass.found_for.Goals as goal

pub returns-in-Some : goal.returns-in-Some
returns-in-Some c = λ o. c.in-Some.ensures c.args.vector.now (get_or c.args.operands.now c.args.k o)
    (c.requires.bounds c.args.k o _ c.requires.operand c.if-k-bounds.true)

pub returns : goal.returns
returns c = λ o. subst (λ x. NamesRange c.args.vector.now x c.find.result)
    (get_or_read c.args.operands.now c.args.k _ c.requires.operand c.index-operands-k.is o) c.find.ensures

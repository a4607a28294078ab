use Rattle.std.proofs.Common.{subst}
use Rattle.std.proofs.lemmas.List.{get_or_read}
use Rattle.ts_query.specs.declared.query.Operand.{Operand}
use Rattle.ts_match.specs.Inner.Pass.{Splits}
use Rattle.ts_match.proofs.pass.come_to.Goals as goal

pub returns-clause-bounds : goal.returns-clause-bounds
returns-clause-bounds c =
    let v = c.args.vector.now in
    let os = c.args.operands.now in
    c.note.ensures v os c.requires.bounds
    (λ o. subst (λ (x : Operand). Splits v x c.args.mark.side c.index_of-index.result) (get_or_read os
    c.args.mark.number _ c.if-k-operands.false c.index-operands-k.is o) c.index_of-index.ensures.splits)

use Rattle.std.proofs.Common.{sym, subst}
use Rattle.posting_code.specs.Cutting.{IsCut}
use Rattle.entry_tree.specs.Splitting.{body_cutting}
use Rattle.entry_tree.specs.Inner.Parts.{left_of, right_of}
use Rattle.entry_tree.proofs.splitting.place_of_cut.Goals as goal

pub returns-in-Half-clause-cut : goal.returns-in-Half-clause-cut
returns-in-Half-clause-cut c =
    let whole = c.args.page.now.body in
    subst (IsCut (body_cutting whole) (left_of whole c.even.result) (right_of whole c.even.result)) (sym c.in-Half.is)
    (IsCut.half c.even.ensures.even)

use Rattle.std.proofs.Common.{sym, subst}
use Rattle.posting_code.specs.Cutting.{IsCut}
use Rattle.posting_code.specs.Dividing.{list_cutting}
use Rattle.posting_code.proofs.Cutting.{map_some, none_few}
use Rattle.posting_code.proofs.dividing.cut.Goals as goal

pub returns-in-Half-clause-some : goal.returns-in-Half-clause-some
returns-in-Half-clause-some c = map_some _ _ c.even.result (λ h p. (
  p.0,
  p.1,
  subst (IsCut (list_cutting c.args.list.now) p.0 p.1) (sym c.in-Half.is)
      (IsCut.half p.2),
  p.3,
)) c.even.ensures.some

pub returns-in-Half-clause-none : goal.returns-in-Half-clause-none
returns-in-Half-clause-none c = none_few c.args.list.now c.even.result c.even.ensures.some c.even.ensures.none

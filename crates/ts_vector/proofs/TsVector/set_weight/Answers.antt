use Rattle.std.proofs.Common.{◌<◌, sym, subst, arith}
use Rattle.ts_base.specs.Vectors.{IsNormal, content_size}
use Rattle.ts_vector.proofs.Changed.{reweighted_normal, reweighted_size}
use Rattle.ts_vector.proofs.TsVector.set_weight.Goals as goal

pub invariant_of-result : goal.invariant_of-result
invariant_of-result c =
    let v = c.self.inside.entries in
    let w = c.args.weight in
    let e = c.in_ok-entries.ensures in (
      subst IsNormal (sym e) (reweighted_normal w v c.self.invariant.0),
      subst (λ u. content_size u < 1048576) (sym e) (omega (arith, reweighted_size w v, c.self.invariant.1)),
    )

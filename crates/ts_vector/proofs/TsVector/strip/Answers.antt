use Rattle.std.proofs.Common.{◌<◌, sym, subst, arith}
use Rattle.ts_base.specs.Vectors.{IsNormal, content_size}
use Rattle.ts_vector.proofs.Changed.{stripped_normal, stripped_size}
use Rattle.ts_vector.proofs.TsVector.strip.Goals as goal

pub invariant_of-result : goal.invariant_of-result
invariant_of-result c =
    let v = c.self.inside.entries in
    let e = c.in_ok-entries.ensures in (
      subst IsNormal (sym e) (stripped_normal v c.self.invariant.0),
      subst (λ u. content_size u < 1048576) (sym e) (omega (arith, stripped_size v, c.self.invariant.1)),
    )

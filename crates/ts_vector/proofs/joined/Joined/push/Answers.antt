use Rattle.std.proofs.Common.{◌<◌, refl, subst, arith}
use Rattle.ts_base.specs.Vectors.{content_size}
use Rattle.ts_vector.specs.Changes.{IsJoinOf}
use Rattle.ts_vector.specs.Failures.{IsTooLargeJoin}
use Rattle.ts_vector.proofs.Changed.{join_form, is_join}
use Rattle.ts_vector.proofs.joined.Joined.push.Goals as goal

pub returns-then-bytes-ge-SIZE_LIMIT-clause-cause :
    goal.returns-then-bytes-ge-SIZE_LIMIT-clause-cause
returns-then-bytes-ge-SIZE_LIMIT-clause-cause c =
    let v = c.self.inside.entries in
    let w = c.part.inside.entries in
    let made = c.join.new.self in
    let j = c.in-Ok.ensures in
    let over : IsTooLargeJoin v w c.size-bytes.result = record {
      greatest = j.0;
      vector = made;
      is_greatest = j.1;
      form = join_form v w j.0 j.1 made j.2;
      size = c.size-bytes.ensures.size;
      large = c.if-bytes-ge-SIZE_LIMIT.true;
    } in
    subst (λ t. IsTooLargeJoin t c.args.part.now c.size-bytes.result) c.self.view_is
    (subst (λ t. IsTooLargeJoin v t c.size-bytes.result) c.part.view_is over)

pub returns-clause-value : goal.returns-clause-value
returns-clause-value c =
    let v = c.self.inside.entries in
    let w = c.part.inside.entries in
    let made = c.join.new.self in
    let j = c.in-Ok.ensures in
    let small : content_size made < 1048576 =
    omega (arith, c.size-bytes.ensures.size, c.if-bytes-ge-SIZE_LIMIT.false) in
    subst (λ t. IsJoinOf t c.args.part.now made) c.self.view_is
    (subst (λ t. IsJoinOf v t made) c.part.view_is (is_join v w j.0 j.1 made j.2 made refl small))

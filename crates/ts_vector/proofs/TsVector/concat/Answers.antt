use Rattle.std.proofs.Common.{◌≡◌, ◌<◌, ◌≤◌, ◌^◌, ◌++◌, ap, subst, arith}
use Rattle.std.proofs.lemmas.Result.{MatchResult-weaker, IfOk-weaker}
use Rattle.ts_base.specs.Vectors.{content_size}
use Rattle.ts_vector.specs.Normal.{IsNormalFormOf}
use Rattle.ts_vector.specs.Changes.{IsJoinOf}
use Rattle.ts_vector.specs.Inner.CappedForm.{shifted_within}
use Rattle.ts_vector.proofs.Merging.{size-append}
use Rattle.ts_vector.proofs.Changed.{unmoved, moved_size, is_join, over_join}
use Rattle.ts_vector.proofs.TsVector.concat.Goals as goal

pub returns-in-Ok-clause-value : goal.returns-in-Ok-clause-value
returns-in-Ok-clause-value c =
    let v = c.self.inside.entries in
    let w = c.other.inside.entries in
    let n = c.greatest-by.result in
    let e : shifted_within 0 v ++ shifted_within n w ≡ v ++ shifted_within n w =
    ap (λ t. t ++ shifted_within n w) (unmoved v c.self.invariant.0.entries) in
    let made = c.in-Ok.entries in
    let form : IsNormalFormOf (v ++ shifted_within n w) made =
    subst (λ l. IsNormalFormOf l made) e c.in-Ok.ensures.form in
    rw (← c.self.view_is, ← c.other.view_is)
    (IfOk-weaker c.within_limit.result (λ u. (u ≡ made) × (content_size u < 1048576)) (IsJoinOf v w)
    (λ u h. is_join v w n c.greatest-by.ensures.greatest made form u h.0 h.1) c.within_limit.ensures.value)

pub returns-in-Ok-clause-cause : goal.returns-in-Ok-clause-cause
returns-in-Ok-clause-cause c =
    let v = c.self.inside.entries in
    let w = c.other.inside.entries in
    let n = c.greatest-by.result in
    let e : shifted_within 0 v ++ shifted_within n w ≡ v ++ shifted_within n w =
    ap (λ t. t ++ shifted_within n w) (unmoved v c.self.invariant.0.entries) in
    let made = c.in-Ok.entries in
    let form : IsNormalFormOf (v ++ shifted_within n w) made =
    subst (λ l. IsNormalFormOf l made) e c.in-Ok.ensures.form in
    let size : content_size made ≤ content_size (v ++ shifted_within n w) =
    subst (λ l. content_size made ≤ content_size l) e c.in-Ok.ensures.size in
    let small : content_size made < 2 ^ 64 =
    omega (arith, size-append v (shifted_within n w), moved_size n w, c.self.invariant.1, c.other.invariant.1) in
    rw (← c.self.view_is, ← c.other.view_is) (MatchResult-weaker c.within_limit.result c.within_limit.ensures.cause
    (λ x p. p) (over_join v w n c.greatest-by.ensures.greatest made form small))

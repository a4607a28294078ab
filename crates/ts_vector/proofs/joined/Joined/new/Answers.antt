use Rattle.std.proofs.Common.{◌≡◌, ◌<◌, ◌++◌, sym, subst, ◌∙◌}
use Rattle.ts_base.specs.Vectors.{content_size}
use Rattle.ts_vector.specs.Changes.{IsGreatest}
use Rattle.ts_vector.specs.Normal.{IsNormalFormOf}
use Rattle.ts_vector.specs.Inner.CappedForm.{shifted_within}
use Rattle.ts_vector.proofs.Gathering.{joined_to_none}
use Rattle.ts_vector.proofs.joined.Joined.new.Goals as goal

pub invariant_of-result : goal.invariant_of-result
invariant_of-result c =
    let v = c.first.inside.entries in
    let made = c.join.new.self in
    let j = c.in_ok-join.ensures in
    let none = c.new-entries.ensures in
    let e : made ≡ v = joined_to_none v made j.0 c.first.invariant.0 (subst (λ t. IsGreatest t j.0) none j.1)
    (subst (λ t. IsNormalFormOf (t ++ shifted_within j.0 v) made) none j.2) in
    subst (λ t. content_size t < 1048576) (sym e) c.first.invariant.1

pub returns : goal.returns
returns c =
    let v = c.first.inside.entries in
    let made = c.join.new.self in
    let j = c.in_ok-join.ensures in
    let none = c.new-entries.ensures in
    joined_to_none v made j.0 c.first.invariant.0 (subst (λ t. IsGreatest t j.0) none j.1)
    (subst (λ t. IsNormalFormOf (t ++ shifted_within j.0 v) made) none j.2) ∙ c.first.view_is

use Rattle.std.proofs.Common.{◌≡◌, ◌-◌, suc, sym, subst, ◌∙◌, refl, arith}
use Rattle.std.specs.Prelude.{Some}
use Rattle.std.specs.List.{slice_get}
use Rattle.std.proofs.lemmas.Option.{slice_get_within}
use Rattle.page_types.specs.Parts.{pieces_shown}
use Rattle.core_state.proofs.FollowingRows.{rising_next, next_rising}
use Rattle.core_state.proofs.linking.keys_rise.Goals as goal

pub returns-then-not-is_below : goal.returns-then-not-is_below
returns-then-not-is_below c =
    let keys = pieces_shown c.args.keys in
    let next : c.loop-j.j ≡ suc (c.loop-j.j - 1) = omega (arith, c.loop-j.invariant.0) in (
      λ e. absurd (cc),
      λ rise. sym c.if-not-is_below.true ∙ c.is_below.ensures.1 (next_rising keys rise (c.loop-j.j - 1)
          c.at.result.now c.at-in-loop-j.result.now c.at.ensures
          (subst (λ i. slice_get keys i ≡ Some c.at-in-loop-j.result.now) next c.at-in-loop-j.ensures)),
    )

pub returns : goal.returns
returns c = (
  λ e. rising_next (pieces_shown c.args.keys) (λ i x y a b. c.loop-j.invariant.1 i x y
      (grind (
        arith,
        slice_get_within (pieces_shown c.args.keys) (suc i) y b,
        c.loop-j-test.false,
        c.len-j-end.ensures,
      )) a b),
  λ w. refl,
)

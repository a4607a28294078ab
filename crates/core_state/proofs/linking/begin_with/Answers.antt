use Rattle.std.proofs.Common.{◌≤◌, length, refl, arith}
use Rattle.page_types.specs.Parts.{row_shown}
use Rattle.core_state.proofs.FollowingRows.{begin_drop, begin_end}
use Rattle.core_state.proofs.linking.begin_with.Goals as goal

pub loop-k-preserved : goal.loop-k-preserved
loop-k-preserved c =
    let same = begin_drop c.args.rows.now c.args.front.now c.loop-k.k (row_shown c.in-Some.a)
    (row_shown c.in-Some-get.b) c.in-Some.ensures.some c.in-Some-get.ensures.some
    (c.is_same_row.ensures.0 c.if-not-is_same_row.false) in (
      λ w. same.0 (c.loop-k.invariant.0 w),
      λ w. c.loop-k.invariant.1 (same.1 w),
    )

pub returns : goal.returns
returns c =
    let past : length c.args.front.now ≤ c.loop-k.k = omega (arith, c.loop-k-test.false, c.len-k-end.ensures) in (
      λ e. c.loop-k.invariant.1 (begin_end c.args.rows.now c.args.front.now c.loop-k.k past),
      λ w. refl,
    )

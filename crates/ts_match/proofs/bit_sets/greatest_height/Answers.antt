use Rattle.std.proofs.Common.{◌≤◌, length, ap, arith}
use Rattle.std.proofs.Math.ListN.{drop_of_length-le}
use Rattle.ts_match.specs.Inner.Heights.{highest}
use Rattle.ts_match.proofs.Order.{greater_is}
use Rattle.ts_match.proofs.Heights.{highest_more, near_behind}
use Rattle.ts_match.proofs.bit_sets.greatest_height.Goals as goal

pub loop-step-preserved : goal.loop-step-preserved
loop-step-preserved c =
    let g = greater_is c.loop-step.greatest c.height_behind-height.result c.max-greatest.result
    c.max-greatest.ensures in record {
      near = (let a = near_behind _ _ c.loop-step.height c.height_behind-height.result c.height_behind-height.ensures in
          let b = c.loop-step.invariant.near in omega arith);
      below = g.right;
      far = highest_more c.args.steps.now c.loop-step.step-index _ (highest c.args.steps.now 0) c.loop-step.greatest
          c.loop-step.height c.height_behind-height.result c.max-greatest.result c.loop-step-test.true
          c.loop-step.invariant.below c.height_behind-height.ensures g.left g.right c.loop-step.invariant.far;
    }

pub returns : goal.returns
returns c =
    let done = drop_of_length-le c.args.steps.now
    (let l : length c.args.steps.now ≤ c.loop-step.step-index = omega arith in l) in
    let e = ap (λ l. highest l c.loop-step.height) done in
    let a = c.loop-step.invariant.far in
    let b = c.loop-step.invariant.below in
    omega arith

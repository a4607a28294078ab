use Rattle.std.proofs.Common.{arith}
use Rattle.ts_match.proofs.Passes.{passed_short, splits_at}
use Rattle.ts_match.proofs.pass.skip.Goals as goal

pub loop-side-preserved : goal.loop-side-preserved
loop-side-preserved c = record {
  at = λ v a. c.step.ensures.at v (c.loop-side.invariant.at v a);
  short = λ v n a s.
      let b = c.loop-side.invariant.at v a in
      let y = c.is_ahead_short.ensures.yes v b c.loop-side-test.true in
      passed_short v c.args.operand.now c.args.side _ _ n b y c.step.ensures.left;
}

pub returns-clause-splits : goal.returns-clause-splits
returns-clause-splits c = λ v n a s.
    let b = c.loop-side.invariant.at v a in
    splits_at v c.args.operand.now c.args.side _ n b (c.loop-side.invariant.short v n a s)
    (c.is_ahead_short.ensures.no v b c.loop-side-test.false)

pub step-requires : goal.step-requires
step-requires c =
    let g = c.requires in
    (c.is_ahead_short.ensures.yes g.0 (c.loop-side.invariant.at g.0 g.1) c.loop-side-test.true).2

pub loop-side-smaller : goal.loop-side-smaller
loop-side-smaller c =
    let g = c.requires in
    let p = (c.is_ahead_short.ensures.yes g.0 (c.loop-side.invariant.at g.0 g.1) c.loop-side-test.true).2 in
    let e = c.step.ensures.left in
    omega arith

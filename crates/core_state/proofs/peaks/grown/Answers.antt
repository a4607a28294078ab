use Rattle.std.proofs.Common.{arith}
use Rattle.core_state.proofs.GreatestNodes.{twice_wide}
use Rattle.core_state.proofs.peaks.grown.Goals as goal

pub loop-grown-preserved : goal.loop-grown-preserved
loop-grown-preserved c = record {
  width = twice_wide c.loop-grown.grown c.loop-grown.invariant.width c.loop-grown.invariant.some
      (omega (arith, c.loop-grown-test.true, c.requires.few));
  some = omega (arith, c.loop-grown.invariant.some);
  more = omega (arith, c.loop-grown.invariant.more);
}

-- The pass holds one page, and then none.
use Rattle.std.proofs.Common.{[], sym}
use Rattle.index_cases.proofs.scans.hold_often.Goals as goal

pub release-requires-clause-holding : goal.release-requires-clause-holding
release-requires-clause-holding g c = ([], c.in_ok-held.ensures.holding [] c.loop.invariant.idle)

pub loop-preserved : goal.loop-preserved
loop-preserved g c =
    let e = c.release.ensures in
    let idle = e.holding [] (c.in_ok-held.ensures.holding [] c.loop.invariant.idle) in
    record {
      pass = e.pass;
      held = sym idle.all;
      idle = idle;
    }

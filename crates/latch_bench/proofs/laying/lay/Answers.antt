use Rattle.latch_bench.proofs.Leaves.{can_lie}
use Rattle.latch_bench.proofs.laying.lay.Goals as goal

pub new-requires-clause-lie : goal.new-requires-clause-lie
new-requires-clause-lie c = can_lie _ c.in_ok-frames.ensures.pages

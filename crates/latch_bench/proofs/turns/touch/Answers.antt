use Rattle.latch_bench.proofs.Claiming.{noted_first}
use Rattle.latch_bench.proofs.turns.touch.Goals as goal

pub give_back-requires-clause-noted : goal.give_back-requires-clause-noted
give_back-requires-clause-noted g c = noted_first _ _ _ _ _ c.claim-leaf.ensures.claimed

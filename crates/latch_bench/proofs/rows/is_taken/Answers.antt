use Rattle.latch_bench.proofs.Claiming.{noted_first}
use Rattle.latch_bench.proofs.rows.is_taken.Goals as goal

pub give_back-requires-clause-noted : goal.give_back-requires-clause-noted
give_back-requires-clause-noted c = noted_first _ _ _ _ _ c.in-Some.ensures.claimed.1.1

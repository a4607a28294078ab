use Rattle.std.proofs.Common.{sym, subst}
use Rattle.core_state.specs.Log.{In}
use Rattle.latch_bench.proofs.Claiming.{noted_first}
use Rattle.latch_bench.proofs.turns.count_one.Goals as goal

pub give_back-requires-clause-noted : goal.give_back-requires-clause-noted
give_back-requires-clause-noted g c =
    let n = noted_first _ _ _ _ _ c.claim-leaf.ensures.claimed in
    (n.0, subst (In n.0) (sym c.log_one.ensures.alike.frames) n.1, n.2, n.3, n.4)

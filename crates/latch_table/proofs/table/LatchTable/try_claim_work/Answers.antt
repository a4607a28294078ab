use Rattle.std.proofs.Common.{refl}
use Rattle.latch_table.proofs.Passing.{tried_work_pass}
use Rattle.latch_table.proofs.table.LatchTable.try_claim_work.Goals as goal

pub returns-clause-pass : goal.returns-clause-pass
returns-clause-pass g c =
    let took = c.take_work.ensures in
    tried_work_pass g.J.Journaled _ c.args.pass.now _ _ took.claimed.0 c.take_work.result c.requires.pass took.same.0
    took.claimed.1 took.claimed.2 took.out refl

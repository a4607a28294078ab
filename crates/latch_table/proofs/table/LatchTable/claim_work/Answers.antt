use Rattle.std.proofs.Common.{refl}
use Rattle.latch_table.specs.Passes.{state}
use Rattle.latch_table.proofs.Passing.{claimed_work_pass}
use Rattle.latch_table.proofs.table.LatchTable.claim_work.Goals as goal

pub returns-clause-pass : goal.returns-clause-pass
returns-clause-pass g c =
    let took = c.take_work_waiting.ensures in
    claimed_work_pass g.J.Journaled _ c.args.pass.now _
    (state c.args.pass.now) c.requires.pass took.same.0 took.claimed refl refl refl refl refl took.out refl

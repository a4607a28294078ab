use Rattle.std.proofs.Common.{refl}
use Rattle.latch_table.proofs.Passing.{claimed_journal_pass}
use Rattle.latch_table.proofs.table.LatchTable.claim_journal.Goals as goal

pub returns-clause-pass : goal.returns-clause-pass
returns-clause-pass g c =
    let took = c.take_journal_waiting.ensures in
    claimed_journal_pass g.J.Journaled _ c.args.pass.now _ _ c.requires.pass c.requires.no_journal took.same.0
    took.claimed took.out refl

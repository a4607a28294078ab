use Rattle.std.proofs.Common.{arith, ap}
use Rattle.latch_table.specs.declared.states.PassState.{PassState}
use Rattle.latch_bench.specs.declared.slots.Tally.{Tally}
use Rattle.latch_bench.proofs.Adding.{can_add, can_look, alike_added, alike_looked}
use Rattle.latch_bench.proofs.turns.log_one.Goals as goal

pub give_back_journal-requires-clause-can : goal.give_back_journal-requires-clause-can
give_back_journal-requires-clause-can g c =
    can_add _ _ _ c.claim_journal-tally.result _ c.claim_journal-tally.ensures.claimed
    (let e = c.in-Some.ensures.1 in omega (arith, e))

pub give_back_journal-requires-in-None-clause-can : goal.give_back_journal-requires-in-None-clause-can
give_back_journal-requires-in-None-clause-can g c =
    can_look _ _ _ c.claim_journal-tally.result c.claim_journal-tally.ensures.claimed

pub returns-in-Some-clause-alike : goal.returns-in-Some-clause-alike
returns-in-Some-clause-alike g c =
    let h = c.claim_journal-tally.ensures.claimed in
    alike_added _ _ _ c.claim_journal-tally.result _ h
    (c.give_back_journal.ensures.given c.claim_journal-tally.result (ap (λ (v : PassState Tally). v.journal) h.state))

pub returns-in-None-clause-alike : goal.returns-in-None-clause-alike
returns-in-None-clause-alike g c =
    let h = c.claim_journal-tally.ensures.claimed in
    alike_looked _ _ _ c.claim_journal-tally.result _ h
    (c.give_back_journal-in-None.ensures.given c.claim_journal-tally.result
    (ap (λ (v : PassState Tally). v.journal) h.state))

use Rattle.std.proofs.Common.{rules, arith}
use borrow.Author.Tests.{eqb-true, eqb-false}
use Rattle.latch_table.proofs.ClaimWork.{claims_work}
use Rattle.latch_table.proofs.works.take_work.Goals as goal

pub compare_exchange-requires : goal.compare_exchange-requires
compare_exchange-requires g c = (
  search rules,
  omega arith,
  claims_work g.F.Framed g.J.Journaled _ g.A.Attempt.notes _ _ _ _ (omega arith) (λ e. absurd (omega arith)),
)

pub returns-clause-claimed : goal.returns-clause-claimed
returns-clause-claimed g c =
    let found = c.compare_exchange.result in
    let told = c.compare_exchange.ensures.2 in (
      found,
      (λ yes. let hit = eqb-true found 0 yes in (hit, told.1 hit)),
      (λ no. let miss = eqb-false found 0 no in (miss, told.2 miss)),
    )

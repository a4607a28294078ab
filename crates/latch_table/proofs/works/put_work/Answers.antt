use Rattle.std.proofs.Common.{rules, arith}
use Rattle.latch_table.proofs.ClaimWork.{gives_work}
use Rattle.latch_table.proofs.works.put_work.Goals as goal

pub store-requires : goal.store-requires
store-requires g c =
    let r = c.requires.right in (
      search rules,
      omega arith,
      gives_work g.F.Framed g.J.Journaled _ _ _ _ r.0 _ (omega arith) (λ e. absurd (omega arith)) r.1,
    )

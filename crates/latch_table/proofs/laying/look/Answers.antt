use Rattle.std.proofs.Common.{rules, ap, subst, ◌∙◌}
use Rattle.latch_table.specs.Told.{HasOpened}
use Rattle.latch_table.specs.declared.states.PassState.{PassState}
use Rattle.latch_table.proofs.Opens.{opens}
use Rattle.latch_table.proofs.laying.look.Goals as goal

pub load-requires : goal.load-requires
load-requires g c =
    let k = c.requires.first in
    (search rules, search rules, rw (k.1) (opens g.F.Framed g.J.Journaled _ _ _ k.0))

pub returns-clause-opened : goal.returns-clause-opened
returns-clause-opened g c key is =
    let told = c.load.ensures.2 key (ap (λ m. m.0.start) is) in (
      subst (λ (v : PassState g.row.J.Denot). HasOpened g.J.Journaled key.value v c.load.new.seat.me.0)
          (ap (λ m. m.0) is) told.0,
      told.1 ∙ ap (λ m. m.1) is,
    )

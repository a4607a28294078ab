use Rattle.std.proofs.Common.{subst}
use Rattle.latch_table.specs.PassStates.{first_state}
use Rattle.latch_table.specs.Told.{HasOpened}
use Rattle.latch_table.specs.Passes.{state}
use Rattle.latch_table.proofs.table.LatchTable.new.Goals as goal

pub returns-clause-opened : goal.returns-clause-opened
returns-clause-opened g c =
    let f = c.in_ok-made.ensures.first in (
      f.0,
      f.1,
      subst (λ (b : g.row.J.Denot). HasOpened g.J.Journaled b (first_state f.0) (state c.open_first.result.1)) f.1
          (c.open_first.ensures.opened f.0 f.2),
    )

use Rattle.latch_table.proofs.Appends.{may_give}
use Rattle.latch_table.proofs.laws.may_give.Goals as goal

pub returns : goal.returns
returns g c = may_give g.J.Journaled

use Rattle.latch_table.proofs.Empty.{empty_stores_lie}
use Rattle.latch_table.proofs.laws.empty_stores_lie.Goals as goal

pub returns : goal.returns
returns g c = empty_stores_lie g.F.Framed g.J.Journaled

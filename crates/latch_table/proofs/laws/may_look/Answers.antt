use Rattle.latch_table.proofs.Appends.{may_look}
use Rattle.latch_table.proofs.laws.may_look.Goals as goal

pub returns : goal.returns
returns g c = may_look g.J.Journaled

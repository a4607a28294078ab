use Rattle.std.proofs.Common.{refl, inr}
use Rattle.engine.proofs.changes.allows.Goals as goal

pub returns-else-other-xid : goal.returns-else-other-xid
returns-else-other-xid c =
    record { may = tt; refused = inr (c.in-Past.other, c.in-Past.is, c.if-other-xid.false, refl) }

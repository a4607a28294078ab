use Rattle.buffer_frames.proofs.Beginning.{stays_since}
use Rattle.buffer_frames.proofs.laws.flushed_stay.Goals as goal

pub returns : goal.returns
returns g c = stays_since g.D.Disk c.counted_are_one.ensures

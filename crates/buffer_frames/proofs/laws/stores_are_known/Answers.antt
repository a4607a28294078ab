use Rattle.buffer_frames.proofs.Stores.{stores_known}
use Rattle.buffer_frames.proofs.laws.stores_are_known.Goals as goal

pub returns : goal.returns
returns c = stores_known c.never_refused.ensures.foreign c.never_refused.ensures.broken

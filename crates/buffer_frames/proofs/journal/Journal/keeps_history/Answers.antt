use Rattle.buffer_frames.proofs.Beginning.{has_flushed}
use Rattle.buffer_frames.proofs.journal.Journal.keeps_history.Goals as goal

pub returns : goal.returns
returns g c = record { flushed = has_flushed g.D.Disk c.counted_are_one.ensures c.args.self.now }

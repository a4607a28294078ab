use Rattle.wal.specs.Waiting.{down_of}
use Rattle.buffer_frames.proofs.Refused.{up_fault}
use Rattle.buffer_frames.proofs.journal.Journal.flush_much.Goals as goal

pub returns-clause-error : goal.returns-clause-error
returns-clause-error g c =
    up_fault c.flush.result (down_of c.args.self.now.wal) c.requires.up c.flush.ensures.error c.flush.ensures.is_down

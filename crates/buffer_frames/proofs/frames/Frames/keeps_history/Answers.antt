use Rattle.std.proofs.Common.{subst}
use Rattle.buffer_frames.specs.Beginnings.{HasFlushed}
use Rattle.buffer_frames.specs.Frames.{FramesValue}
use Rattle.buffer_frames.proofs.frames.Frames.keeps_history.Goals as goal

pub returns-clause-flushed : goal.returns-clause-flushed
returns-clause-flushed g c =
    subst (λ (f : FramesValue g.row.D.Denot). HasFlushed g.D.Disk f.journal)
    c.self.view_is c.keeps_history.ensures.flushed

use Rattle.std.proofs.Common.{refl, subst, arith}
use Rattle.buffer_frames.specs.Frames.{FramesValue, AreFrames}
use Rattle.buffer_frames.proofs.PassesKept.{sees_kept}
use Rattle.buffer_frames.proofs.frames.Frames.try_claim_work.Goals as goal

pub returns-then-is_worked-clause-sees_on : goal.returns-then-is_worked-clause-sees_on
returns-then-is_worked-clause-sees_on g c =
    sees_kept g.D.Disk c.counted_are_one.ensures (λ t d. g.met.D.Disk.seen_is_image d t) c.args.self.now c.args.self.now
    c.args.pass.now c.args.pass.now
    (subst (λ (f : FramesValue g.row.D.Denot). AreFrames g.D.Disk f) c.self.view_is c.self.invariant)
    refl c.requires.pass (omega arith) (c.requires.pass).seen

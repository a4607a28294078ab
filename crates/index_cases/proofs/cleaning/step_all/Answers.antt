-- The pass keeps its right, and the cleanup goes on.
use Rattle.std.proofs.Common.{◌∙◌, ℕ, Bool}
use Rattle.std.specs.Prelude.{Result}
use Rattle.disk_trait.specs.declared.device.Disk.{Ghosts as Disk}
use Rattle.buffer_frames.specs.Frames.{FramesValue}
use Rattle.buffer_frames.specs.declared.pass.Pass.{Pass}
use Rattle.gin_place.specs.declared.error.PlaceError.{PlaceError}
use Rattle.gin_cleanup.specs.Going.{HasCleaned}
use Rattle.gin_cleanup.specs.declared.cleanup.Cleanup.{Cleanup}
use Rattle.index_cases.specs.Working.{Works}
use Rattle.index_cases.proofs.Rights.{right_stays}
use Rattle.index_cases.proofs.cleaning.step_all.Goals as goal

-- after a step it works still
works_on : {D : Type 0} (device : Disk D) (f : FramesValue D) (p : Pass) (f' : FramesValue D) (p' : Pass) (from : ℕ)
    (old new : Cleanup) (r : Result Bool PlaceError) → Works f p 16 → HasCleaned device f p f' p' from old new r
    → Works f' p' 16
works_on device f p f' p' from old new r w h = record {
  is_pass = h.works.2.is_pass;
  right = right_stays p p' w.right h.works.2.work h.works.2.rises.seen;
  none = h.none_held;
  room_is = h.works.2.room ∙ w.room_is;
}

pub loop-preserved : goal.loop-preserved
loop-preserved g c =
    let w = c.loop.invariant in
    let h = c.step.ensures w.cleaning.0 w.cleaning.1 in
    record {
      working = works_on g.D.Disk c.loop.frames c.loop.pass c.step.new.frames c.step.new.pass w.cleaning.0
          c.loop.cleanup c.step.new.self c.step.result w.working h;
      cleaning = (w.cleaning.0, h.cleaning);
    }

pub returns-in_err-more : goal.returns-in_err-more
returns-in_err-more g c =
    let w = c.loop.invariant in
    record {
      working = works_on g.D.Disk c.loop.frames c.loop.pass c.step.new.frames c.step.new.pass w.cleaning.0
          c.loop.cleanup c.step.new.self c.step.result w.working (c.step.ensures w.cleaning.0 w.cleaning.1);
    }

pub returns-then-not-more : goal.returns-then-not-more
returns-then-not-more g c =
    let w = c.loop.invariant in
    record {
      working = works_on g.D.Disk c.loop.frames c.loop.pass c.step.new.frames c.step.new.pass w.cleaning.0
          c.loop.cleanup c.step.new.self c.step.result w.working (c.step.ensures w.cleaning.0 w.cleaning.1);
    }

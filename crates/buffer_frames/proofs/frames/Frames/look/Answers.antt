use Rattle.std.proofs.Common.{refl, ap, subst, arith}
use Rattle.buffer_frames.specs.Frames.{FramesValue, AreFrames}
use Rattle.buffer_frames.specs.declared.pass.Pass.{Pass}
use Rattle.buffer_frames.proofs.FramesKept.{still_added, holds_on}
use Rattle.buffer_frames.proofs.PassesKept.{sees_kept}
use Rattle.buffer_frames.proofs.PinsKept.{state_seen}
use Rattle.buffer_frames.proofs.JournalKept.{runs_kept, calm_kept}
use Rattle.buffer_frames.proofs.frames.Frames.look.Goals as goal

pub returns-in-Some-clause-added : goal.returns-in-Some-clause-added
returns-in-Some-clause-added g c =
    still_added g.D.Disk c.counted_are_one.ensures (λ t d. g.met.D.Disk.seen_is_image d t) c.args.self.now
    (subst (λ (f : FramesValue g.row.D.Denot). AreFrames g.D.Disk f) c.self.view_is c.self.invariant)

pub returns-clause-seen : goal.returns-clause-seen
returns-clause-seen g c = state_seen g.D.Disk c.args.self.now c.see_all.new.pass
    (ap (λ (p : Pass). p.seen) c.see_all.ensures.seen)

pub returns-clause-sees_on : goal.returns-clause-sees_on
returns-clause-sees_on g c =
    sees_kept g.D.Disk c.counted_are_one.ensures (λ t d. g.met.D.Disk.seen_is_image d t) c.args.self.now c.args.self.now
    c.args.pass.now c.see_all.new.pass
    (subst (λ (f : FramesValue g.row.D.Denot). AreFrames g.D.Disk f) c.self.view_is c.self.invariant)
    refl c.requires.pass c.see_all.ensures.rises.seen (omega (arith, ap (λ (p : Pass). p.seen) c.see_all.ensures.seen))

pub returns-clause-holding : goal.returns-clause-holding
returns-clause-holding g c held h =
    let f : FramesValue g.row.D.Denot = c.args.self.now in
    holds_on g.D.Disk c.counted_are_one.ensures (λ t d. g.met.D.Disk.seen_is_image d t)
    f.journal f.journal f.pins f.pins f.homes c.args.pass.now c.see_all.new.pass held
    (subst (λ (k : FramesValue g.row.D.Denot). AreFrames g.D.Disk k) c.self.view_is c.self.invariant)
    (λ R s. s) (λ up. up) c.see_all.ensures.pass (ap (λ (p : Pass). p.held) c.see_all.ensures.seen) h

pub returns-clause-added : goal.returns-clause-added
returns-clause-added g c =
    still_added g.D.Disk c.counted_are_one.ensures (λ t d. g.met.D.Disk.seen_is_image d t) c.args.self.now
    (subst (λ (f : FramesValue g.row.D.Denot). AreFrames g.D.Disk f) c.self.view_is c.self.invariant)

pub returns-in-Some-clause-runs_on : goal.returns-in-Some-clause-runs_on
returns-in-Some-clause-runs_on g c = runs_kept g.D.Disk c.args.self.now c.args.self.now refl

pub returns-in-Some-clause-calm : goal.returns-in-Some-clause-calm
returns-in-Some-clause-calm g c = calm_kept g.D.Disk c.args.self.now.journal c.args.self.now.journal refl

pub returns-clause-runs_on : goal.returns-clause-runs_on
returns-clause-runs_on g c = runs_kept g.D.Disk c.args.self.now c.args.self.now refl

pub returns-clause-calm : goal.returns-clause-calm
returns-clause-calm g c = calm_kept g.D.Disk c.args.self.now.journal c.args.self.now.journal refl

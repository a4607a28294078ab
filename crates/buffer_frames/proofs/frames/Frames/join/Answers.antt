use Rattle.std.proofs.Common.{◌≡◌, ◌+◌, refl, sym, subst}
use Rattle.buffer_frames.specs.Frames.{FramesValue}
use Rattle.buffer_frames.specs.Passes.{IsPassOf, joined_with}
use Rattle.buffer_frames.specs.declared.pass.Pass.{Pass}
use Rattle.buffer_frames.proofs.AtHand.{held_on}
use Rattle.buffer_frames.proofs.PassesOf.{of_joined}
use Rattle.buffer_frames.proofs.frames.Frames.join.Goals as goal

pub returns-clause-pass : goal.returns-clause-pass
returns-clause-pass g c =
    let f : FramesValue g.row.D.Denot = c.args.self.now in
    let new : Pass = record (c.args.pass.now) {
      seen = c.max-pass.result;
      shown = c.max-pass-2.result;
      floor = c.max-pass-3.result;
      since = c.max-pass-4.result;
      room = c.args.pass.now.room + c.args.other.room;
      work = c.either_right-pass.result;
    } in
    let right = c.either_right-pass.ensures in
    let is : new ≡ joined_with c.args.other c.args.pass.now = cc in
    subst (λ (p : Pass). IsPassOf f p) (sym is)
    (of_joined f.journal f.pins f.homes c.args.pass.now c.args.other c.requires.other c.requires.pass)

pub returns-clause-holding : goal.returns-clause-holding
returns-clause-holding g c held h =
    let f : FramesValue g.row.D.Denot = c.args.self.now in
    let new : Pass = record (c.args.pass.now) {
      seen = c.max-pass.result;
      shown = c.max-pass-2.result;
      floor = c.max-pass-3.result;
      since = c.max-pass-4.result;
      room = c.args.pass.now.room + c.args.other.room;
      work = c.either_right-pass.result;
    } in
    let right = c.either_right-pass.ensures in
    let is : new ≡ joined_with c.args.other c.args.pass.now = cc in
    let of = of_joined f.journal f.pins f.homes c.args.pass.now c.args.other c.requires.other c.requires.pass in
    held_on g.D.Disk f c.args.pass.now new held (subst (λ (p : Pass). IsPassOf f p) (sym is) of) refl h

use Rattle.std.proofs.Common.{◌-◌, refl}
use Rattle.buffer_frames.specs.Frames.{FramesValue}
use Rattle.buffer_frames.proofs.PassesOf.{of_room, of_split}
use Rattle.buffer_frames.specs.Passes.{split_of}
use Rattle.buffer_frames.proofs.AtHand.{none_held, held_on}
use Rattle.buffer_frames.proofs.frames.Frames.split.Goals as goal

pub returns-clause-old : goal.returns-clause-old
returns-clause-old g c =
    let f : FramesValue g.row.D.Denot = c.args.self.now in
    of_room f.journal f.pins f.homes c.args.pass.now (c.args.pass.now.room - 1) c.requires.pass

pub returns-clause-new : goal.returns-clause-new
returns-clause-new g c =
    let f : FramesValue g.row.D.Denot = c.args.self.now in
    of_split f.journal f.pins f.homes c.args.pass.now c.requires.none c.requires.pass

pub returns-clause-none_held : goal.returns-clause-none_held
returns-clause-none_held g c =
    let f : FramesValue g.row.D.Denot = c.args.self.now in
    none_held g.D.Disk f (split_of c.args.pass.now) (of_split f.journal f.pins f.homes c.args.pass.now c.requires.none
    c.requires.pass) refl

pub returns-clause-holding : goal.returns-clause-holding
returns-clause-holding g c held h =
    let f : FramesValue g.row.D.Denot = c.args.self.now in
    held_on g.D.Disk f c.args.pass.now (record (c.args.pass.now) { room = c.args.pass.now.room - 1 }) held
    (of_room f.journal f.pins f.homes c.args.pass.now (c.args.pass.now.room - 1) c.requires.pass) refl h

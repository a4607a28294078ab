use Rattle.std.proofs.Common.{List, sym, subst}
use Rattle.std.specs.Prelude.{Option, None}
use Rattle.snap_pins.specs.declared.Pin.{Pin as PinInUse}
use Rattle.buffer_frames.specs.Frames.{FramesValue, AreFrames}
use Rattle.buffer_frames.specs.Passes.{IsPassOf}
use Rattle.buffer_frames.proofs.FramesKept.{framed}
use Rattle.buffer_frames.proofs.PassesOf.{of_unpinned}
use Rattle.buffer_frames.proofs.PinCalls.{keeps_still, keeps_unpinned}
use Rattle.buffer_frames.proofs.PinsKept.{unpinned_frames, pin_taken}
use Rattle.buffer_frames.proofs.frames.Frames.unpin.Goals as goal

pub unpin-requires : goal.unpin-requires
unpin-requires g c =
    let of = subst (λ (f : FramesValue g.row.D.Denot). IsPassOf f c.args.pass.now) (sym c.self.view_is)
    c.requires.pass in
    pin_taken (framed c.self.inside.journal c.self.inside.pins c.self.inside.homes.items)
    c.args.pass.now c.in-Some.pinned c.in-Some.is of

pub invariant_of-self : goal.invariant_of-self
invariant_of-self g c =
    let of = subst (λ (f : FramesValue g.row.D.Denot). IsPassOf f c.args.pass.now) (sym c.self.view_is)
    c.requires.pass in
    let taken = pin_taken (framed c.self.inside.journal c.self.inside.pins c.self.inside.homes.items)
    c.args.pass.now c.in-Some.pinned c.in-Some.is of in
    subst (λ (ps : List (Option PinInUse)). AreFrames g.D.Disk
    (framed c.self.inside.journal ps c.self.inside.homes.items)) (sym c.unpin.ensures)
    (unpinned_frames g.D.Disk c.self.inside.journal c.self.inside.pins c.self.inside.homes.items
    c.in-Some.pinned.place taken c.self.invariant)

pub returns-in-Some-clause-pass : goal.returns-in-Some-clause-pass
returns-in-Some-clause-pass g c =
    let of = subst (λ (f : FramesValue g.row.D.Denot). IsPassOf f c.args.pass.now) (sym c.self.view_is)
    c.requires.pass in
    let taken = pin_taken (framed c.self.inside.journal c.self.inside.pins c.self.inside.homes.items)
    c.args.pass.now c.in-Some.pinned c.in-Some.is of in
    subst (λ (ps : List (Option PinInUse)). IsPassOf (framed c.self.inside.journal ps c.self.inside.homes.items)
    (record (c.args.pass.now) { pin = None })) (sym c.unpin.ensures)
    (of_unpinned c.self.inside.journal c.self.inside.pins c.self.inside.homes.items c.args.pass.now
    c.in-Some.pinned.place taken of)

pub returns-in-Some-clause-keeps : goal.returns-in-Some-clause-keeps
returns-in-Some-clause-keeps g c =
    let j = c.self.inside.journal in
    let pins = c.self.inside.pins in
    let homes = c.self.inside.homes.items in
    let of = subst (λ (f : FramesValue g.row.D.Denot). IsPassOf f c.args.pass.now) (sym c.self.view_is)
    c.requires.pass in
    keeps_unpinned g.D.Disk c.counted_are_one.ensures (λ t d. g.met.D.Disk.seen_is_image d t) c.args.self.now j pins
    c.unpin.new.self homes c.args.pass.now c.in-Some.pinned.place c.self.view_is c.self.invariant
    (pin_taken (framed j pins homes) c.args.pass.now c.in-Some.pinned c.in-Some.is of) of c.unpin.ensures

pub returns-in_default-clause-keeps : goal.returns-in_default-clause-keeps
returns-in_default-clause-keeps g c =
    keeps_still g.D.Disk c.counted_are_one.ensures (λ t d. g.met.D.Disk.seen_is_image d t) c.args.self.now
    c.args.pass.now (subst (λ (f : FramesValue g.row.D.Denot). AreFrames g.D.Disk f) c.self.view_is c.self.invariant)
    c.requires.pass

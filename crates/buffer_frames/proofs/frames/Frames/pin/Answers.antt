use Rattle.std.proofs.Common.{◌≡◌, ℕ, List, sym, ap, subst, ◌∙◌}
use Rattle.std.specs.Prelude.{Option}
use Rattle.snap_pins.specs.declared.Pin.{Pin as PinInUse}
use Rattle.core_state.specs.States.{StateValue}
use Rattle.buffer_frames.specs.Frames.{FramesValue, AreFrames}
use Rattle.buffer_frames.specs.Passes.{IsPassOf}
use Rattle.buffer_frames.proofs.FramesKept.{framed}
use Rattle.buffer_frames.proofs.PassesOf.{of_pinned}
use Rattle.buffer_frames.proofs.PinCalls.{keeps_still, keeps_pinned}
use Rattle.buffer_frames.proofs.PinsKept.{new_pins, pinned_pass, pinned_frames}
use Rattle.buffer_frames.proofs.frames.Frames.pin.Goals as goal

pub returns-in-Some-clause-keeps : goal.returns-in-Some-clause-keeps
returns-in-Some-clause-keeps g c =
    keeps_still g.D.Disk c.counted_are_one.ensures (λ t d. g.met.D.Disk.seen_is_image d t) c.args.self.now
    c.args.pass.now (subst (λ (f : FramesValue g.row.D.Denot). AreFrames g.D.Disk f) c.self.view_is c.self.invariant)
    c.requires.pass

pub invariant_of-self : goal.invariant_of-self
invariant_of-self g c =
    let j = c.self.inside.journal in
    let pins = c.self.inside.pins in
    let homes = c.self.inside.homes.items in
    let n = c.flushed-commits.result in
    let m = c.length-length.result in
    let place = c.pin-place.result in
    let flushed : n ≡ j.flushed = c.flushed-commits.ensures in
    let all : m ≡ j.state.records = c.length-length.ensures ∙ ap (λ (v : StateValue). v.records) c.state.ensures in
    let of = subst (λ (f : FramesValue g.row.D.Denot). IsPassOf f c.args.pass.now) (sym c.self.view_is)
    c.requires.pass in
    let is : c.pin-place.new.self ≡ new_pins pins place j.flushed j.state.records = c.pin-place.ensures.pinned
    ∙ ap (λ (k : ℕ). new_pins pins place k m) flushed ∙ ap (new_pins pins place j.flushed) all in
    subst (λ (ps : List (Option PinInUse)). AreFrames g.D.Disk (framed j ps homes)) (sym is)
    (pinned_frames g.D.Disk j pins homes place c.pin-place.ensures.free c.self.invariant)

pub returns-clause-pass : goal.returns-clause-pass
returns-clause-pass g c =
    let j = c.self.inside.journal in
    let pins = c.self.inside.pins in
    let homes = c.self.inside.homes.items in
    let n = c.flushed-commits.result in
    let m = c.length-length.result in
    let place = c.pin-place.result in
    let flushed : n ≡ j.flushed = c.flushed-commits.ensures in
    let all : m ≡ j.state.records = c.length-length.ensures ∙ ap (λ (v : StateValue). v.records) c.state.ensures in
    let of = subst (λ (f : FramesValue g.row.D.Denot). IsPassOf f c.args.pass.now) (sym c.self.view_is)
    c.requires.pass in
    let is : c.pin-place.new.self ≡ new_pins pins place j.flushed j.state.records = c.pin-place.ensures.pinned
    ∙ ap (λ (k : ℕ). new_pins pins place k m) flushed ∙ ap (new_pins pins place j.flushed) all in
    subst (λ (ps : List (Option PinInUse)). IsPassOf (framed j ps homes) (pinned_pass c.args.pass.now place n m))
    (sym is)
    (subst (λ (k : ℕ). IsPassOf (framed j (new_pins pins place j.flushed j.state.records) homes)
    (pinned_pass c.args.pass.now place k m)) (sym flushed)
    (subst (λ (k : ℕ). IsPassOf (framed j (new_pins pins place j.flushed j.state.records) homes)
    (pinned_pass c.args.pass.now place j.flushed k)) (sym all)
    (of_pinned j pins homes c.args.pass.now place c.pin-place.ensures.free of)))

pub returns-clause-keeps : goal.returns-clause-keeps
returns-clause-keeps g c =
    let j = c.self.inside.journal in
    let pins = c.self.inside.pins in
    let n = c.flushed-commits.result in
    let m = c.length-length.result in
    let place = c.pin-place.result in
    keeps_pinned g.D.Disk c.counted_are_one.ensures (λ t d. g.met.D.Disk.seen_is_image d t) c.args.self.now j pins
    c.pin-place.new.self c.self.inside.homes.items c.args.pass.now place n m c.self.view_is c.self.invariant
    c.pin-place.ensures.free c.requires.pass c.pin-place.ensures.pinned c.flushed-commits.ensures
    (c.length-length.ensures ∙ ap (λ (v : StateValue). v.records) c.state.ensures)

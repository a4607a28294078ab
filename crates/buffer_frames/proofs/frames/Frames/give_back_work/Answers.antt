use Rattle.std.proofs.Common.{◌≡◌, [], refl, sym, ap, subst, ◌∙◌}
use Rattle.std.specs.Prelude.{None}
use Rattle.buffer_frames.specs.Journals.{JournalValue}
use Rattle.buffer_frames.specs.Beginnings.{BeginsOn}
use Rattle.buffer_frames.specs.Frames.{FramesValue, AreFrames}
use Rattle.buffer_frames.specs.Passes.{IsHolding, SeesOn, HasAdded, with_right}
use Rattle.buffer_frames.proofs.FramesKept.{framed}
use Rattle.buffer_frames.proofs.Works.{holds_right, given_pass, right_frames, right_begins, right_added, right_sees}
use Rattle.buffer_frames.proofs.Works.{right_holds}
use Rattle.buffer_frames.proofs.frames.Frames.give_back_work.Goals as goal

pub invariant_of-self : goal.invariant_of-self
invariant_of-self g c =
    let f : FramesValue g.row.D.Denot = c.args.self.now in
    let new : FramesValue g.row.D.Denot = framed c.set_work.new.self c.self.inside.pins c.self.inside.homes.items in
    let same : new ≡ with_right (None) f =
    ap (λ (j : JournalValue g.row.D.Denot). framed j c.self.inside.pins c.self.inside.homes.items) c.set_work.ensures
    ∙ ap (λ (k : FramesValue g.row.D.Denot). with_right (None) k) c.self.view_is in
    let are : AreFrames g.D.Disk f =
    subst (λ (k : FramesValue g.row.D.Denot). AreFrames g.D.Disk k) c.self.view_is c.self.invariant in
    subst (λ (k : FramesValue g.row.D.Denot). AreFrames g.D.Disk k) (sym same)
    (right_frames g.D.Disk f (None) (λ R s. tt) are)

pub returns-clause-holding : goal.returns-clause-holding
returns-clause-holding g c held h =
    let f : FramesValue g.row.D.Denot = c.args.self.now in
    let new : FramesValue g.row.D.Denot = framed c.set_work.new.self c.self.inside.pins c.self.inside.homes.items in
    let same : new ≡ with_right (None) f =
    ap (λ (j : JournalValue g.row.D.Denot). framed j c.self.inside.pins c.self.inside.homes.items) c.set_work.ensures
    ∙ ap (λ (k : FramesValue g.row.D.Denot). with_right (None) k) c.self.view_is in
    let are : AreFrames g.D.Disk f =
    subst (λ (k : FramesValue g.row.D.Denot). AreFrames g.D.Disk k) c.self.view_is c.self.invariant in
    let pass' = holds_right c.args.pass.now (None) in
    subst (λ (k : FramesValue g.row.D.Denot). IsHolding g.D.Disk k pass' held) (sym same)
    (right_holds g.D.Disk f (None) (λ R s. tt) c.counted_are_one.ensures (λ t d. g.met.D.Disk.seen_is_image d t) are
    c.args.pass.now pass' held (given_pass f c.args.pass.now c.requires.pass) refl h)

pub returns-clause-sees_on : goal.returns-clause-sees_on
returns-clause-sees_on g c =
    let f : FramesValue g.row.D.Denot = c.args.self.now in
    let new : FramesValue g.row.D.Denot = framed c.set_work.new.self c.self.inside.pins c.self.inside.homes.items in
    let same : new ≡ with_right (None) f =
    ap (λ (j : JournalValue g.row.D.Denot). framed j c.self.inside.pins c.self.inside.homes.items) c.set_work.ensures
    ∙ ap (λ (k : FramesValue g.row.D.Denot). with_right (None) k) c.self.view_is in
    let are : AreFrames g.D.Disk f =
    subst (λ (k : FramesValue g.row.D.Denot). AreFrames g.D.Disk k) c.self.view_is c.self.invariant in
    let pass' = holds_right c.args.pass.now (None) in
    subst (λ (k : FramesValue g.row.D.Denot). SeesOn g.D.Disk k c.args.pass.now pass') (sym same)
    (right_sees g.D.Disk f (None) (λ R s. tt) c.counted_are_one.ensures (λ t d. g.met.D.Disk.seen_is_image d t) are
    c.args.pass.now pass' c.requires.pass refl)

pub returns-clause-added : goal.returns-clause-added
returns-clause-added g c =
    let f : FramesValue g.row.D.Denot = c.args.self.now in
    let new : FramesValue g.row.D.Denot = framed c.set_work.new.self c.self.inside.pins c.self.inside.homes.items in
    let same : new ≡ with_right (None) f =
    ap (λ (j : JournalValue g.row.D.Denot). framed j c.self.inside.pins c.self.inside.homes.items) c.set_work.ensures
    ∙ ap (λ (k : FramesValue g.row.D.Denot). with_right (None) k) c.self.view_is in
    let are : AreFrames g.D.Disk f =
    subst (λ (k : FramesValue g.row.D.Denot). AreFrames g.D.Disk k) c.self.view_is c.self.invariant in
    subst (λ (k : FramesValue g.row.D.Denot). HasAdded g.D.Disk f k []) (sym same)
    (right_added g.D.Disk f (None) (λ R s. tt) c.counted_are_one.ensures (λ t d. g.met.D.Disk.seen_is_image d t) are)

pub returns-clause-begins : goal.returns-clause-begins
returns-clause-begins g c =
    let f : FramesValue g.row.D.Denot = c.args.self.now in
    let new : FramesValue g.row.D.Denot = framed c.set_work.new.self c.self.inside.pins c.self.inside.homes.items in
    let same : new ≡ with_right (None) f =
    ap (λ (j : JournalValue g.row.D.Denot). framed j c.self.inside.pins c.self.inside.homes.items) c.set_work.ensures
    ∙ ap (λ (k : FramesValue g.row.D.Denot). with_right (None) k) c.self.view_is in
    let are : AreFrames g.D.Disk f =
    subst (λ (k : FramesValue g.row.D.Denot). AreFrames g.D.Disk k) c.self.view_is c.self.invariant in
    subst (λ (k : FramesValue g.row.D.Denot). BeginsOn g.D.Disk f.journal k.journal) (sym same)
    (right_begins g.D.Disk f (None) (λ R s. tt))

use Rattle.std.proofs.Common.{◌≡◌, ℕ, [], refl, sym, ap, subst, ◌∙◌}
use Rattle.std.specs.Prelude.{Some}
use Rattle.core_state.specs.States.{StateValue}
use Rattle.buffer_frames.specs.Journals.{JournalValue}
use Rattle.buffer_frames.specs.Beginnings.{BeginsOn}
use Rattle.buffer_frames.specs.Frames.{FramesValue, AreFrames}
use Rattle.buffer_frames.specs.Passes.{IsHolding, SeesOn, HasAdded, with_right}
use Rattle.buffer_frames.proofs.FramesKept.{framed}
use Rattle.buffer_frames.proofs.Works.{holds_right, claimed_pass, claimed_rests, right_frames, right_begins}
use Rattle.buffer_frames.proofs.Works.{right_added, right_sees, right_holds}
use Rattle.buffer_frames.proofs.frames.Frames.claim_work.Goals as goal

pub invariant_of-self : goal.invariant_of-self
invariant_of-self g c =
    let f : FramesValue g.row.D.Denot = c.args.self.now in
    let n : ℕ = c.length-length.result in
    let is : n ≡ f.journal.state.records =
    c.length-length.ensures ∙ ap (λ (v : StateValue). v.records) c.state.ensures
    ∙ ap (λ (k : FramesValue g.row.D.Denot). k.journal.state.records) c.self.view_is in
    let new : FramesValue g.row.D.Denot = framed c.set_work.new.self c.self.inside.pins c.self.inside.homes.items in
    let same : new ≡ with_right (Some n) f =
    ap (λ (j : JournalValue g.row.D.Denot). framed j c.self.inside.pins c.self.inside.homes.items) c.set_work.ensures
    ∙ ap (λ (k : FramesValue g.row.D.Denot). with_right (Some n) k) c.self.view_is in
    let are : AreFrames g.D.Disk f =
    subst (λ (k : FramesValue g.row.D.Denot). AreFrames g.D.Disk k) c.self.view_is c.self.invariant in
    subst (λ (k : FramesValue g.row.D.Denot). AreFrames g.D.Disk k) (sym same)
    (right_frames g.D.Disk f (Some n) (claimed_rests g.D.Disk f n is) are)

pub returns-clause-holding : goal.returns-clause-holding
returns-clause-holding g c held h =
    let f : FramesValue g.row.D.Denot = c.args.self.now in
    let n : ℕ = c.length-length.result in
    let is : n ≡ f.journal.state.records =
    c.length-length.ensures ∙ ap (λ (v : StateValue). v.records) c.state.ensures
    ∙ ap (λ (k : FramesValue g.row.D.Denot). k.journal.state.records) c.self.view_is in
    let new : FramesValue g.row.D.Denot = framed c.set_work.new.self c.self.inside.pins c.self.inside.homes.items in
    let same : new ≡ with_right (Some n) f =
    ap (λ (j : JournalValue g.row.D.Denot). framed j c.self.inside.pins c.self.inside.homes.items) c.set_work.ensures
    ∙ ap (λ (k : FramesValue g.row.D.Denot). with_right (Some n) k) c.self.view_is in
    let are : AreFrames g.D.Disk f =
    subst (λ (k : FramesValue g.row.D.Denot). AreFrames g.D.Disk k) c.self.view_is c.self.invariant in
    let pass' = holds_right c.args.pass.now (Some n) in
    subst (λ (k : FramesValue g.row.D.Denot). IsHolding g.D.Disk k pass' held) (sym same)
    (right_holds g.D.Disk f (Some n) (claimed_rests g.D.Disk f n is) c.counted_are_one.ensures
    (λ t d. g.met.D.Disk.seen_is_image d t) are
    c.args.pass.now pass' held (claimed_pass f n is c.args.pass.now c.requires.pass) refl h)

pub returns-clause-sees_on : goal.returns-clause-sees_on
returns-clause-sees_on g c =
    let f : FramesValue g.row.D.Denot = c.args.self.now in
    let n : ℕ = c.length-length.result in
    let is : n ≡ f.journal.state.records =
    c.length-length.ensures ∙ ap (λ (v : StateValue). v.records) c.state.ensures
    ∙ ap (λ (k : FramesValue g.row.D.Denot). k.journal.state.records) c.self.view_is in
    let new : FramesValue g.row.D.Denot = framed c.set_work.new.self c.self.inside.pins c.self.inside.homes.items in
    let same : new ≡ with_right (Some n) f =
    ap (λ (j : JournalValue g.row.D.Denot). framed j c.self.inside.pins c.self.inside.homes.items) c.set_work.ensures
    ∙ ap (λ (k : FramesValue g.row.D.Denot). with_right (Some n) k) c.self.view_is in
    let are : AreFrames g.D.Disk f =
    subst (λ (k : FramesValue g.row.D.Denot). AreFrames g.D.Disk k) c.self.view_is c.self.invariant in
    let pass' = holds_right c.args.pass.now (Some n) in
    subst (λ (k : FramesValue g.row.D.Denot). SeesOn g.D.Disk k c.args.pass.now pass') (sym same)
    (right_sees g.D.Disk f (Some n) (claimed_rests g.D.Disk f n is) c.counted_are_one.ensures
    (λ t d. g.met.D.Disk.seen_is_image d t) are
    c.args.pass.now pass' c.requires.pass refl)

pub returns-clause-added : goal.returns-clause-added
returns-clause-added g c =
    let f : FramesValue g.row.D.Denot = c.args.self.now in
    let n : ℕ = c.length-length.result in
    let is : n ≡ f.journal.state.records =
    c.length-length.ensures ∙ ap (λ (v : StateValue). v.records) c.state.ensures
    ∙ ap (λ (k : FramesValue g.row.D.Denot). k.journal.state.records) c.self.view_is in
    let new : FramesValue g.row.D.Denot = framed c.set_work.new.self c.self.inside.pins c.self.inside.homes.items in
    let same : new ≡ with_right (Some n) f =
    ap (λ (j : JournalValue g.row.D.Denot). framed j c.self.inside.pins c.self.inside.homes.items) c.set_work.ensures
    ∙ ap (λ (k : FramesValue g.row.D.Denot). with_right (Some n) k) c.self.view_is in
    let are : AreFrames g.D.Disk f =
    subst (λ (k : FramesValue g.row.D.Denot). AreFrames g.D.Disk k) c.self.view_is c.self.invariant in
    subst (λ (k : FramesValue g.row.D.Denot). HasAdded g.D.Disk f k []) (sym same)
    (right_added g.D.Disk f (Some n) (claimed_rests g.D.Disk f n is) c.counted_are_one.ensures
    (λ t d. g.met.D.Disk.seen_is_image d t) are)

pub returns-clause-begins : goal.returns-clause-begins
returns-clause-begins g c =
    let f : FramesValue g.row.D.Denot = c.args.self.now in
    let n : ℕ = c.length-length.result in
    let is : n ≡ f.journal.state.records =
    c.length-length.ensures ∙ ap (λ (v : StateValue). v.records) c.state.ensures
    ∙ ap (λ (k : FramesValue g.row.D.Denot). k.journal.state.records) c.self.view_is in
    let new : FramesValue g.row.D.Denot = framed c.set_work.new.self c.self.inside.pins c.self.inside.homes.items in
    let same : new ≡ with_right (Some n) f =
    ap (λ (j : JournalValue g.row.D.Denot). framed j c.self.inside.pins c.self.inside.homes.items) c.set_work.ensures
    ∙ ap (λ (k : FramesValue g.row.D.Denot). with_right (Some n) k) c.self.view_is in
    let are : AreFrames g.D.Disk f =
    subst (λ (k : FramesValue g.row.D.Denot). AreFrames g.D.Disk k) c.self.view_is c.self.invariant in
    subst (λ (k : FramesValue g.row.D.Denot). BeginsOn g.D.Disk f.journal k.journal) (sym same)
    (right_begins g.D.Disk f (Some n) (claimed_rests g.D.Disk f n is))

use Rattle.std.proofs.Common.{◌+◌, ◌∷◌, [], refl, sym, ap, subst, arith}
use Rattle.core_state.specs.Allowed.{Sheet}
use Rattle.buffer_frames.specs.Frames.{FramesValue, AreFrames}
use Rattle.buffer_frames.specs.Passes.{IsHolding, HasAdded}
use Rattle.buffer_frames.proofs.FramesKept.{framed, nothing_added, still_added, homes_stand, taken_shows, alike_shows}
use Rattle.buffer_frames.proofs.FramesKept.{holds_more, holds_still, taken_frames, alike_frames}
use Rattle.buffer_frames.proofs.PassesKept.{sees_kept}
use Rattle.std.specs.Prelude.{Result, Ok, Err, OnErr}
use Rattle.buffer_frames.specs.declared.frame_error.FrameError.TheVariants.{Down}
use Rattle.buffer_frames.proofs.JournalKept.{state_kept, runs_kept, begins_kept, cause_kept}
use Rattle.buffer_frames.proofs.frames.Frames.hold.Goals as goal

pub returns-in-Some-clause-added : goal.returns-in-Some-clause-added
returns-in-Some-clause-added g c =
    still_added g.D.Disk c.counted_are_one.ensures (λ t d. g.met.D.Disk.seen_is_image d t) c.args.self.now
    (subst (λ (f : FramesValue g.row.D.Denot). AreFrames g.D.Disk f) c.self.view_is c.self.invariant)

pub invariant_of-self : goal.invariant_of-self
invariant_of-self g c =
    alike_frames g.D.Disk c.counted_are_one.ensures (λ t d. g.met.D.Disk.seen_is_image d t)
    c.self.inside.journal c.self.inside.pins c.self.inside.homes.items c.take_page.new.homes.items
    c.in_err-content.ensures.same c.self.invariant

pub returns-in_err-content-clause-sees_on : goal.returns-in_err-content-clause-sees_on
returns-in_err-content-clause-sees_on g c =
    sees_kept g.D.Disk c.counted_are_one.ensures (λ t d. g.met.D.Disk.seen_is_image d t) c.args.self.now
    (framed c.self.inside.journal c.self.inside.pins c.take_page.new.homes.items) c.args.pass.now c.args.pass.now
    (subst (λ (f : FramesValue g.row.D.Denot). AreFrames g.D.Disk f) c.self.view_is c.self.invariant)
    (ap (λ (f : FramesValue g.row.D.Denot). f.journal) c.self.view_is) c.requires.pass (omega arith)
    (c.requires.pass).seen

on_err : {T E : Type 0} (r : Result T E) (P : Type 0) → P → OnErr r P
on_err (Ok x) P p = tt
on_err (Err e) P p = p

pub returns-in_err-content-clause-still : goal.returns-in_err-content-clause-still
returns-in_err-content-clause-still g c =
    on_err c.from_residual.result _ (λ held h.
    let holds = subst (λ (f : FramesValue g.row.D.Denot). IsHolding g.D.Disk f c.args.pass.now held)
    (sym c.self.view_is) h in
    holds_still g.D.Disk c.counted_are_one.ensures (λ t d. g.met.D.Disk.seen_is_image d t)
    c.self.inside.journal c.self.inside.pins c.self.inside.homes.items c.take_page.new.homes.items c.args.pass.now
    held c.self.invariant c.in_err-content.ensures.same holds)

pub returns-in_err-content-clause-added : goal.returns-in_err-content-clause-added
returns-in_err-content-clause-added g c =
    subst (λ (f : FramesValue g.row.D.Denot). HasAdded g.D.Disk f
    (framed c.self.inside.journal c.self.inside.pins c.take_page.new.homes.items) []) c.self.view_is
    (nothing_added g.D.Disk c.counted_are_one.ensures (λ t d. g.met.D.Disk.seen_is_image d t)
    c.self.inside.journal c.self.inside.journal c.self.inside.pins c.self.inside.pins c.self.inside.homes.items
    c.take_page.new.homes.items c.self.invariant
    (homes_stand g.D.Disk c.counted_are_one.ensures (λ t d. g.met.D.Disk.seen_is_image d t)
    c.self.inside.journal c.self.inside.pins c.self.inside.homes.items c.take_page.new.homes.items
    (λ R. alike_shows c.self.inside.homes.items c.take_page.new.homes.items R c.in_err-content.ensures.same)) refl)

pub invariant_of-self-2 : goal.invariant_of-self-2
invariant_of-self-2 g c =
    taken_frames g.D.Disk c.counted_are_one.ensures (λ t d. g.met.D.Disk.seen_is_image d t)
    c.self.inside.journal c.self.inside.pins c.self.inside.homes.items c.take_page.new.homes.items c.args.page
    c.in_ok-content.content c.in_ok-content.ensures.taken c.self.invariant

pub returns-clause-holding : goal.returns-clause-holding
returns-clause-holding g c held h =
    let holds = subst (λ (f : FramesValue g.row.D.Denot). IsHolding g.D.Disk f c.args.pass.now held)
    (sym c.self.view_is) h in
    subst (λ (x : Sheet). IsHolding g.D.Disk (framed c.self.inside.journal c.self.inside.pins
    c.take_page.new.homes.items) (record (c.args.pass.now)
    { held = c.args.pass.now.held + 1; holds = c.saturating_add-pass.result }) (x ∷ held)) (sym c.new.ensures)
    (holds_more g.D.Disk c.counted_are_one.ensures (λ t d. g.met.D.Disk.seen_is_image d t)
    c.self.inside.journal c.self.inside.pins c.self.inside.homes.items c.take_page.new.homes.items c.args.page
    c.in_ok-content.content c.args.pass.now c.saturating_add-pass.result held c.self.invariant
    c.in_ok-content.ensures.taken holds)

pub returns-clause-sees_on : goal.returns-clause-sees_on
returns-clause-sees_on g c =
    sees_kept g.D.Disk c.counted_are_one.ensures (λ t d. g.met.D.Disk.seen_is_image d t) c.args.self.now
    (framed c.self.inside.journal c.self.inside.pins c.take_page.new.homes.items) c.args.pass.now
    (record (c.args.pass.now) { held = c.args.pass.now.held + 1; holds = c.saturating_add-pass.result })
    (subst (λ (f : FramesValue g.row.D.Denot). AreFrames g.D.Disk f) c.self.view_is c.self.invariant)
    (ap (λ (f : FramesValue g.row.D.Denot). f.journal) c.self.view_is) c.requires.pass (omega arith)
    (c.requires.pass).seen

pub returns-clause-added : goal.returns-clause-added
returns-clause-added g c =
    subst (λ (f : FramesValue g.row.D.Denot). HasAdded g.D.Disk f
    (framed c.self.inside.journal c.self.inside.pins c.take_page.new.homes.items) []) c.self.view_is
    (nothing_added g.D.Disk c.counted_are_one.ensures (λ t d. g.met.D.Disk.seen_is_image d t)
    c.self.inside.journal c.self.inside.journal c.self.inside.pins c.self.inside.pins c.self.inside.homes.items
    c.take_page.new.homes.items c.self.invariant
    (homes_stand g.D.Disk c.counted_are_one.ensures (λ t d. g.met.D.Disk.seen_is_image d t)
    c.self.inside.journal c.self.inside.pins c.self.inside.homes.items c.take_page.new.homes.items
    (λ R. taken_shows c.self.inside.homes.items c.take_page.new.homes.items c.args.page c.in_ok-content.content R
    c.in_ok-content.ensures.taken)) refl)

pub returns-in-Some-clause-runs_on : goal.returns-in-Some-clause-runs_on
returns-in-Some-clause-runs_on g c = runs_kept g.D.Disk c.args.self.now c.args.self.now refl

pub returns-in-Some-clause-state : goal.returns-in-Some-clause-state
returns-in-Some-clause-state g c = state_kept c.args.self.now c.args.self.now refl

pub returns-in-Some-clause-cause : goal.returns-in-Some-clause-cause
returns-in-Some-clause-cause g c =
    cause_kept g.D.Disk c.args.self.now.journal c.args.self.now.journal (Err (Down c.in-Some.fault)) refl
    (λ e. let z : ⊥ = cc in z)

pub returns-in_err-content-clause-runs_on : goal.returns-in_err-content-clause-runs_on
returns-in_err-content-clause-runs_on g c =
    runs_kept g.D.Disk c.args.self.now (framed c.self.inside.journal c.self.inside.pins c.take_page.new.homes.items)
    (ap (λ (f : FramesValue g.row.D.Denot). f.journal) c.self.view_is)

pub returns-in_err-content-clause-state : goal.returns-in_err-content-clause-state
returns-in_err-content-clause-state g c =
    state_kept c.args.self.now (framed c.self.inside.journal c.self.inside.pins c.take_page.new.homes.items)
    (ap (λ (f : FramesValue g.row.D.Denot). f.journal) c.self.view_is)

pub returns-clause-runs_on : goal.returns-clause-runs_on
returns-clause-runs_on g c =
    runs_kept g.D.Disk c.args.self.now (framed c.self.inside.journal c.self.inside.pins c.take_page.new.homes.items)
    (ap (λ (f : FramesValue g.row.D.Denot). f.journal) c.self.view_is)

pub returns-clause-state : goal.returns-clause-state
returns-clause-state g c =
    state_kept c.args.self.now (framed c.self.inside.journal c.self.inside.pins c.take_page.new.homes.items)
    (ap (λ (f : FramesValue g.row.D.Denot). f.journal) c.self.view_is)

pub returns-in_err-content-clause-begins : goal.returns-in_err-content-clause-begins
returns-in_err-content-clause-begins g c =
    begins_kept g.D.Disk c.args.self.now.journal c.self.inside.journal
    (ap (λ (f : FramesValue g.row.D.Denot). f.journal) c.self.view_is)

pub returns-clause-begins : goal.returns-clause-begins
returns-clause-begins g c =
    begins_kept g.D.Disk c.args.self.now.journal c.self.inside.journal
    (ap (λ (f : FramesValue g.row.D.Denot). f.journal) c.self.view_is)

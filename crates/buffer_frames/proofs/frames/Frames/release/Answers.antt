use Rattle.std.proofs.Common.{◌-◌, ◌∷◌, List, [], refl, sym, ap, subst, ◌∙◌, arith}
use Rattle.std.specs.Prelude.{set}
use Rattle.core_state.specs.Allowed.{Sheet}
use Rattle.buffer_frames.specs.Frames.{FramesValue, AreFrames}
use Rattle.buffer_frames.specs.Passes.{IsPassOf, IsHolding, HasAdded}
use Rattle.buffer_frames.specs.declared.home.Home.{Home}
use Rattle.buffer_frames.specs.declared.home.Home.TheVariants.{Content}
use Rattle.buffer_frames.proofs.FramesKept.{framed, nothing_added}
use Rattle.buffer_frames.proofs.PassesKept.{sees_kept}
use Rattle.buffer_frames.proofs.PassesOf.{of_held}
use Rattle.buffer_frames.proofs.Released.{released_stands, released_frames, holds_less}
use Rattle.buffer_frames.proofs.JournalKept.{state_kept, runs_kept, begins_kept, calm_kept}
use Rattle.buffer_frames.proofs.frames.Frames.release.Goals as goal

pub invariant_of-self : goal.invariant_of-self
invariant_of-self g c =
    let is = c.put_page.ensures ∙ ap (λ (x : Sheet). set c.self.inside.homes.items x.page (Content x.content))
    c.into_sheet.ensures.value in
    let holds = subst (λ (f : FramesValue g.row.D.Denot). IsHolding g.D.Disk f c.args.pass.now
    (c.args.held ∷ c.requires.holding.0)) (sym c.self.view_is) c.requires.holding.1 in
    subst (λ (hs : List Home). AreFrames g.D.Disk (framed c.self.inside.journal c.self.inside.pins hs)) (sym is)
    (released_frames g.D.Disk c.counted_are_one.ensures (λ t d. g.met.D.Disk.seen_is_image d t)
    c.self.inside.journal c.self.inside.pins c.self.inside.homes.items c.args.pass.now c.args.held
    c.requires.holding.0 c.into_sheet.ensures.is_page c.self.invariant holds)

pub returns-clause-holding : goal.returns-clause-holding
returns-clause-holding g c others h =
    let is = c.put_page.ensures ∙ ap (λ (x : Sheet). set c.self.inside.homes.items x.page (Content x.content))
    c.into_sheet.ensures.value in
    let holds = subst (λ (f : FramesValue g.row.D.Denot). IsHolding g.D.Disk f c.args.pass.now (c.args.held ∷ others))
    (sym c.self.view_is) h in
    let of = subst (λ (f : FramesValue g.row.D.Denot). IsPassOf f c.args.pass.now) (sym c.self.view_is)
    c.requires.pass in
    subst (λ (hs : List Home). IsHolding g.D.Disk (framed c.self.inside.journal c.self.inside.pins hs)
    (record (c.args.pass.now) { held = c.args.pass.now.held - 1 }) others) (sym is)
    (holds_less g.D.Disk c.counted_are_one.ensures (λ t d. g.met.D.Disk.seen_is_image d t)
    c.self.inside.journal c.self.inside.pins c.self.inside.homes.items c.args.pass.now c.args.held others
    c.self.invariant
    (released_stands g.D.Disk c.counted_are_one.ensures (λ t d. g.met.D.Disk.seen_is_image d t)
    c.self.inside.journal c.self.inside.pins c.self.inside.homes.items c.args.pass.now c.args.held others
    holds) holds
    (of_held c.self.inside.journal c.self.inside.pins c.self.inside.homes.items
    (set c.self.inside.homes.items c.args.held.page (Content c.args.held.content)) c.args.pass.now
    (c.args.pass.now.held - 1) (omega (arith, of.few)) of))

pub returns-clause-sees_on : goal.returns-clause-sees_on
returns-clause-sees_on g c =
    sees_kept g.D.Disk c.counted_are_one.ensures (λ t d. g.met.D.Disk.seen_is_image d t) c.args.self.now
    (framed c.self.inside.journal c.self.inside.pins c.put_page.new.homes.items) c.args.pass.now
    (record (c.args.pass.now) { held = c.args.pass.now.held - 1 })
    (subst (λ (f : FramesValue g.row.D.Denot). AreFrames g.D.Disk f) c.self.view_is c.self.invariant)
    (ap (λ (f : FramesValue g.row.D.Denot). f.journal) c.self.view_is) c.requires.pass (omega arith)
    (c.requires.pass).seen

pub returns-clause-added : goal.returns-clause-added
returns-clause-added g c =
    let is = c.put_page.ensures ∙ ap (λ (x : Sheet). set c.self.inside.homes.items x.page (Content x.content))
    c.into_sheet.ensures.value in
    let holds = subst (λ (f : FramesValue g.row.D.Denot). IsHolding g.D.Disk f c.args.pass.now
    (c.args.held ∷ c.requires.holding.0)) (sym c.self.view_is) c.requires.holding.1 in
    subst (λ (f : FramesValue g.row.D.Denot). HasAdded g.D.Disk f
    (framed c.self.inside.journal c.self.inside.pins c.put_page.new.homes.items) []) c.self.view_is
    (subst (λ (hs : List Home). HasAdded g.D.Disk (framed c.self.inside.journal c.self.inside.pins
    c.self.inside.homes.items) (framed c.self.inside.journal c.self.inside.pins hs) []) (sym is)
    (nothing_added g.D.Disk c.counted_are_one.ensures (λ t d. g.met.D.Disk.seen_is_image d t)
    c.self.inside.journal c.self.inside.journal c.self.inside.pins c.self.inside.pins c.self.inside.homes.items
    (set c.self.inside.homes.items c.args.held.page (Content c.args.held.content)) c.self.invariant
    (released_stands g.D.Disk c.counted_are_one.ensures (λ t d. g.met.D.Disk.seen_is_image d t)
    c.self.inside.journal c.self.inside.pins c.self.inside.homes.items c.args.pass.now c.args.held
    c.requires.holding.0 holds) refl))

pub returns-clause-runs_on : goal.returns-clause-runs_on
returns-clause-runs_on g c =
    runs_kept g.D.Disk c.args.self.now (framed c.self.inside.journal c.self.inside.pins c.put_page.new.homes.items)
    (ap (λ (f : FramesValue g.row.D.Denot). f.journal) c.self.view_is)

pub returns-clause-state : goal.returns-clause-state
returns-clause-state g c =
    state_kept c.args.self.now (framed c.self.inside.journal c.self.inside.pins c.put_page.new.homes.items)
    (ap (λ (f : FramesValue g.row.D.Denot). f.journal) c.self.view_is)

pub returns-clause-calm : goal.returns-clause-calm
returns-clause-calm g c =
    calm_kept g.D.Disk c.args.self.now.journal c.self.inside.journal
    (ap (λ (f : FramesValue g.row.D.Denot). f.journal) c.self.view_is)

pub returns-clause-begins : goal.returns-clause-begins
returns-clause-begins g c =
    begins_kept g.D.Disk c.args.self.now.journal c.self.inside.journal
    (ap (λ (f : FramesValue g.row.D.Denot). f.journal) c.self.view_is)

pub returns-clause-at_rest : goal.returns-clause-at_rest
returns-clause-at_rest g c fault down = ap (λ (f : FramesValue g.row.D.Denot). f.journal) c.self.view_is

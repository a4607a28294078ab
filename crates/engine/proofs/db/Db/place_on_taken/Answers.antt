-- A head is placed on a new page that is held, or the page is given back.
use Rattle.std.proofs.Common.{refl, ◌≡◌, ◌⊎◌, [], ◌∷◌, sym, subst, inl, inr, rules}
use Rattle.page_types.specs.declared.page.Page.{Page}
use Rattle.page_types.specs.declared.page.Gone.{Gone}
use Rattle.page_types.specs.declared.page.Body.TheVariants as body
use Rattle.buffer_frames.specs.Passes.{IsHolding}
use Rattle.engine.specs.Db.{DbValue}
use Rattle.engine.specs.Inner.Choosing.{WorksOn}
use Rattle.engine.proofs.Carrying.{holds_none}
use Rattle.engine.proofs.Choosing.{released}
use Rattle.engine.proofs.db.Db.place_on_taken.Goals as goal

pub hold_new_page-requires-clause-holding : goal.hold_new_page-requires-clause-holding
hold_new_page-requires-clause-holding g c =
    ([], holds_none g.D.Disk c.args.self.now c.args.pass.now c.requires.pass c.requires.none)

pub place_on_new-requires-clause-is_new : goal.place_on_new-requires-clause-is_new
place_on_new-requires-clause-is_new g c =
    subst (λ (p : Page). (p.body ≡ body.Free) ⊎ ((gone : Gone) × (p.body ≡ body.Deleted gone)))
    (sym c.page.ensures.value)
    (elim c.in_ok-held.ensures.unused [ inl free ↦ inl free | inr gone ↦ inr gone.0 ])

pub release-requires-clause-holding : goal.release-requires-clause-holding
release-requires-clause-holding g c = (
  [],
  subst (λ (s : DbValue g.row.D.Denot). IsHolding g.D.Disk s.frames c.hold_new_page.new.pass (c.in_ok-held.held ∷ []))
      (sym c.self.view_is)
      (c.in_ok-held.ensures.holding []
      (holds_none g.D.Disk c.args.self.now c.args.pass.now c.requires.pass c.requires.none)),
)

pub returns-in-Ok-clause-placed : goal.returns-in-Ok-clause-placed
returns-in-Ok-clause-placed g c = record {
  placed = search rules;
  is_page = search rules;
  holding = c.in_ok-held.ensures.holding []
      (holds_none g.D.Disk c.args.self.now c.args.pass.now c.requires.pass c.requires.none);
}

pub returns-in-Err-clause-on : goal.returns-in-Err-clause-on
returns-in-Err-clause-on g c =
    let e = c.in_ok-held.ensures in
    let r = c.release.ensures in
    let a : DbValue g.row.D.Denot = c.args.self.now in
    let b : DbValue g.row.D.Denot = record { frames = c.self.inside.frames; pending = c.self.inside.pending } in
    let d : DbValue g.row.D.Denot = record { frames = c.release.new.self; pending = c.self.inside.pending } in
    released g.D.Disk a b d refl c.args.pass.now c.hold_new_page.new.pass c.release.new.pass c.in_ok-held.held
    (subst (λ (s : DbValue g.row.D.Denot). WorksOn g.D.Disk a c.args.pass.now s c.hold_new_page.new.pass)
    (sym c.self.view_is) e.on) e.lies
    r.pass r.sees_on r.added r.rises r.same r.runs_on r.state r.pins r.lies r.others r.calm r.begins

pub returns-in-Err-clause-still : goal.returns-in-Err-clause-still
returns-in-Err-clause-still g c =
    sym (c.release.ensures.holding []
    (subst (λ (s : DbValue g.row.D.Denot). IsHolding g.D.Disk s.frames c.hold_new_page.new.pass
    (c.in_ok-held.held ∷ []))
    (sym c.self.view_is)
    (c.in_ok-held.ensures.holding []
    (holds_none g.D.Disk c.args.self.now c.args.pass.now c.requires.pass c.requires.none)))).all

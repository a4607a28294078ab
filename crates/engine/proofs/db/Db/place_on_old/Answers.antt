-- A head is placed on a heap page that is held, or the page is given back.
use Rattle.std.proofs.Common.{refl, ℕ, [], ◌∷◌, sym, subst, rules}
use Rattle.buffer_frames.specs.Passes.{IsHolding}
use Rattle.engine.specs.Db.{DbValue}
use Rattle.engine.specs.Places.{Lies}
use Rattle.engine.specs.Inner.Choosing.{WorksOn}
use Rattle.engine.proofs.Carrying.{holds_none}
use Rattle.engine.proofs.Choosing.{held_works, released, not_heap}
use Rattle.engine.proofs.db.Db.place_on_old.Goals as goal

pub release-requires-clause-holding : goal.release-requires-clause-holding
release-requires-clause-holding g c = (
  [],
  subst (λ (s : DbValue g.row.D.Denot). IsHolding g.D.Disk s.frames c.hold_page.new.pass (c.in_ok-held.held ∷ []))
      (sym c.self.view_is)
      (c.in_ok-held.ensures.holding []
      (holds_none g.D.Disk c.args.self.now c.args.pass.now c.requires.pass c.requires.none)),
)

pub release-requires-in-Err-clause-holding : goal.release-requires-in-Err-clause-holding
release-requires-in-Err-clause-holding g c = (
  [],
  subst (λ (s : DbValue g.row.D.Denot). IsHolding g.D.Disk s.frames c.hold_page.new.pass (c.in_ok-held.held ∷ []))
      (sym c.self.view_is)
      (c.in_ok-held.ensures.holding []
      (holds_none g.D.Disk c.args.self.now c.args.pass.now c.requires.pass c.requires.none)),
)

pub returns-in-Ok-Some-clause-on : goal.returns-in-Ok-Some-clause-on
returns-in-Ok-Some-clause-on g c =
    let e = c.in_ok-held.ensures in
    let held = e.holding [] (holds_none g.D.Disk c.args.self.now c.args.pass.now c.requires.pass c.requires.none) in
    held_works g.D.Disk c.args.self.now c.hold_page.new.self c.args.pass.now c.hold_page.new.pass c.args.page
    c.in_ok-held.held [] e.pass e.carries e.goes e.state e.pins e.keeps e.rises e.others e.number held

pub returns-in-Ok-Some-clause-placed : goal.returns-in-Ok-Some-clause-placed
returns-in-Ok-Some-clause-placed g c = record {
  placed = search rules;
  is_page = search rules;
  holding = c.in_ok-held.ensures.holding []
      (holds_none g.D.Disk c.args.self.now c.args.pass.now c.requires.pass c.requires.none);
}

pub returns-in-Ok-None-clause-on : goal.returns-in-Ok-None-clause-on
returns-in-Ok-None-clause-on g c =
    let e = c.in_ok-held.ensures in
    let r = c.release.ensures in
    let a : DbValue g.row.D.Denot = c.args.self.now in
    let b : DbValue g.row.D.Denot = record { frames = c.self.inside.frames; pending = c.self.inside.pending } in
    let d : DbValue g.row.D.Denot = record { frames = c.release.new.self; pending = c.self.inside.pending } in
    let x = c.in_ok-held.held in
    let held = e.holding [] (holds_none g.D.Disk a c.args.pass.now c.requires.pass c.requires.none) in
    let works = held_works g.D.Disk a c.hold_page.new.self c.args.pass.now c.hold_page.new.pass c.args.page
    x [] e.pass e.carries e.goes e.state e.pins e.keeps e.rises e.others e.number held in
    released g.D.Disk a b d refl c.args.pass.now c.hold_page.new.pass c.release.new.pass x
    (subst (λ (s : DbValue g.row.D.Denot). WorksOn g.D.Disk a c.args.pass.now s c.hold_page.new.pass)
    (sym c.self.view_is) works)
    (subst (λ (n : ℕ). Lies a n x.content) (sym e.number) e.lies)
    r.pass r.sees_on r.added r.rises r.same r.runs_on r.state r.pins r.lies r.others r.calm r.begins

pub returns-in-Ok-None-clause-none : goal.returns-in-Ok-None-clause-none
returns-in-Ok-None-clause-none g c =
    sym (c.release.ensures.holding []
    (subst (λ (s : DbValue g.row.D.Denot). IsHolding g.D.Disk s.frames c.hold_page.new.pass (c.in_ok-held.held ∷ []))
    (sym c.self.view_is)
    (c.in_ok-held.ensures.holding []
    (holds_none g.D.Disk c.args.self.now c.args.pass.now c.requires.pass c.requires.none)))).all

pub returns-in-Err-clause-on : goal.returns-in-Err-clause-on
returns-in-Err-clause-on g c =
    let e = c.in_ok-held.ensures in
    let r = c.release-in-Err.ensures in
    let a : DbValue g.row.D.Denot = c.args.self.now in
    let b : DbValue g.row.D.Denot = record { frames = c.self.inside.frames; pending = c.self.inside.pending } in
    let d : DbValue g.row.D.Denot = record { frames = c.release-in-Err.new.self; pending = c.self.inside.pending } in
    let x = c.in_ok-held.held in
    let held = e.holding [] (holds_none g.D.Disk a c.args.pass.now c.requires.pass c.requires.none) in
    let works = held_works g.D.Disk a c.hold_page.new.self c.args.pass.now c.hold_page.new.pass c.args.page
    x [] e.pass e.carries e.goes e.state e.pins e.keeps e.rises e.others e.number held in
    released g.D.Disk a b d refl c.args.pass.now c.hold_page.new.pass c.release-in-Err.new.pass x
    (subst (λ (s : DbValue g.row.D.Denot). WorksOn g.D.Disk a c.args.pass.now s c.hold_page.new.pass)
    (sym c.self.view_is) works)
    (subst (λ (n : ℕ). Lies a n x.content) (sym e.number) e.lies)
    r.pass r.sees_on r.added r.rises r.same r.runs_on r.state r.pins r.lies r.others r.calm r.begins

pub returns-in-Err-clause-still : goal.returns-in-Err-clause-still
returns-in-Err-clause-still g c =
    sym (c.release-in-Err.ensures.holding []
    (subst (λ (s : DbValue g.row.D.Denot). IsHolding g.D.Disk s.frames c.hold_page.new.pass (c.in_ok-held.held ∷ []))
    (sym c.self.view_is)
    (c.in_ok-held.ensures.holding []
    (holds_none g.D.Disk c.args.self.now c.args.pass.now c.requires.pass c.requires.none)))).all

pub returns-in-Err-clause-cause : goal.returns-in-Err-clause-cause
returns-in-Err-clause-cause g c =
    let e = c.in_ok-held.ensures in
    not_heap g.D.Disk c.args.self.now c.args.page c.in_ok-held.held.page c.in_ok-held.held.content c.in-Err.error
    e.number e.lies c.in-Err.ensures.cause

-- A new page is taken, once it is held, or is given back.
use Rattle.std.proofs.Common.{refl, ◌≡◌, ℕ, true, false, List, sym, ap, subst, ◌∙◌}
use Rattle.std.specs.Prelude.{Option, Result, Err, IfErr}
use Rattle.std.proofs.lemmas.Result.{err_from_is_err_and}
use Rattle.wal.specs.Waiting.{down_of}
use Rattle.page_types.specs.Pages.{IsPage}
use Rattle.core_state.specs.Allowed.{Sheet}
use Rattle.buffer_frames.specs.Passes.{IsHolding}
use Rattle.buffer_frames.specs.declared.pass.Pass.{Pass}
use Rattle.engine.specs.Causes.{IsNew, IsDown}
use Rattle.engine.specs.Db.{DbValue, state_of, IsUp}
use Rattle.engine.specs.Going.{MetNoFault}
use Rattle.engine.specs.Places.{Lies}
use Rattle.engine.specs.Inner.Asked.{new_page_answer}
use Rattle.engine.specs.Inner.Choosing.{WorksOn, CannotTake}
use Rattle.engine.specs.Inner.Refusals.{frame_refusal}
use Rattle.engine.specs.declared.error.DbError.{DbError}
use Rattle.engine.proofs.Choosing.{looked, held_works, refused_works, works_in_turn, released}
use Rattle.engine.proofs.Choosing.{took_new, was_used, not_taken}
use Rattle.engine.proofs.Paths.{calm_fault}
use Rattle.engine.proofs.Starting.{up_at_pin}
use Rattle.engine.proofs.db.Db.take_page.Goals as goal

pub returns-in_err-page-clause-on : goal.returns-in_err-page-clause-on
returns-in_err-page-clause-on g c =
    let a : DbValue g.row.D.Denot = record { frames = c.self.inside.frames; pending = c.self.inside.pending } in
    let b : DbValue g.row.D.Denot = record { frames = c.look.new.self; pending = c.self.inside.pending } in
    let e = c.look.ensures in
    subst (λ (s : DbValue g.row.D.Denot). WorksOn g.D.Disk s c.args.pass.now b c.look.new.pass) c.self.view_is
    (looked g.D.Disk a b refl c.args.pass.now c.look.new.pass e.pass e.sees_on e.added e.keeps e.rises e.keeps.xid
    e.runs_on
    e.state e.pins e.others e.calm e.begins)

pub returns-in_err-page-clause-cause : goal.returns-in_err-page-clause-cause
returns-in_err-page-clause-cause g c =
    let p = err_from_is_err_and c.from_residual.result c.from_residual.ensures.1 in
    let b : DbValue g.row.D.Denot = record { frames = c.look.new.self; pending = c.self.inside.pending } in
    let d = c.in_err-page.ensures.error in
    let was = (c.look.ensures.is_down d.0).0 (c.in_err-page.was ∙ ap Err d.1) in
    subst (λ (r : Result (Result Sheet ℕ) DbError). IfErr r (CannotTake g.D.Disk c.args.self.now b)) (sym p.1)
    (subst (CannotTake g.D.Disk c.args.self.now b) (sym (p.2 ∙ ap frame_refusal d.1))
    (subst (λ (s : DbValue g.row.D.Denot). IsDown s d.0) c.self.view_is was))

pub returns-in_default-clause-on : goal.returns-in_default-clause-on
returns-in_default-clause-on g c =
    let a : DbValue g.row.D.Denot = record { frames = c.self.inside.frames; pending = c.self.inside.pending } in
    let b : DbValue g.row.D.Denot = record { frames = c.look.new.self; pending = c.self.inside.pending } in
    let e = c.look.ensures in
    subst (λ (s : DbValue g.row.D.Denot). WorksOn g.D.Disk s c.args.pass.now b c.look.new.pass) c.self.view_is
    (looked g.D.Disk a b refl c.args.pass.now c.look.new.pass e.pass e.sees_on e.added e.keeps e.rises e.keeps.xid
    e.runs_on
    e.state e.pins e.others e.calm e.begins)

pub returns-in_err-held-clause-on : goal.returns-in_err-held-clause-on
returns-in_err-held-clause-on g c =
    let a : DbValue g.row.D.Denot = record { frames = c.self.inside.frames; pending = c.self.inside.pending } in
    let b : DbValue g.row.D.Denot = record { frames = c.look.new.self; pending = c.self.inside.pending } in
    let d : DbValue g.row.D.Denot = c.hold_page.new.self in
    let e = c.look.ensures in
    let h = c.in_err-held.ensures in
    subst (λ (s : DbValue g.row.D.Denot). WorksOn g.D.Disk s c.args.pass.now d c.hold_page.new.pass) c.self.view_is
    (works_in_turn g.D.Disk a b d c.args.pass.now c.look.new.pass c.hold_page.new.pass
    (looked g.D.Disk a b refl c.args.pass.now c.look.new.pass e.pass e.sees_on e.added e.keeps e.rises e.keeps.xid
    e.runs_on
    e.state e.pins e.others e.calm e.begins)
    (refused_works g.D.Disk b d c.look.new.pass c.hold_page.new.pass h.pass h.carries h.goes h.state h.pins h.keeps
    h.rises h.unmoved))

pub returns-in_err-held-clause-cause : goal.returns-in_err-held-clause-cause
returns-in_err-held-clause-cause g c =
    let p : Pass = c.args.pass.now in
    let q : Pass = c.look.new.pass in
    let a : DbValue g.row.D.Denot = c.args.self.now in
    let b : DbValue g.row.D.Denot = record { frames = c.look.new.self; pending = c.self.inside.pending } in
    let l = c.look.ensures in
    let asked = subst (λ (s : DbValue g.row.D.Denot). WorksOn g.D.Disk s p b q) c.self.view_is
    (looked g.D.Disk (record {
      frames = c.self.inside.frames;
      pending = c.self.inside.pending;
    }) b refl p q l.pass l.sees_on l.added l.keeps l.rises l.keeps.xid
    l.runs_on l.state l.pins l.others l.calm l.begins) in
    let e = c.in_ok-page.ensures in
    let answer = subst (λ (o : Option (ℕ × ℕ)). new_page_answer (record {}) (state_of b) q.floor q.since o) c.in-Some.is
    e.answers in
    let d : DbValue g.row.D.Denot = c.hold_page.new.self in
    let met = subst (λ (s : DbValue g.row.D.Denot). MetNoFault g.D.Disk s b) c.self.view_is
    (calm_fault g.D.Disk (record { frames = c.self.inside.frames; pending = c.self.inside.pending }) b l.calm) in
    let up : IsUp b = l.calm.down
    ∙ up_at_pin (down_of c.self.inside.frames.journal.wal) c.look.result _ l.is_down c.in_ok-page.was in
    let w = err_from_is_err_and c.from_residual-in_err-held.result c.from_residual-in_err-held.ensures.1 in
    subst (λ (r : Result (Result Sheet ℕ) DbError). IfErr r (CannotTake g.D.Disk a d)) (sym w.1)
    (subst (CannotTake g.D.Disk a d) (sym w.2)
    (not_taken g.D.Disk a b p q c.in-Some.page c.in-Some.since asked e.since e.all answer.0 answer.1 d _ up met
    c.in_err-held.ensures.cause))

pub returns-then-is_new-clause-on : goal.returns-then-is_new-clause-on
returns-then-is_new-clause-on g c =
    let a : DbValue g.row.D.Denot = record { frames = c.self.inside.frames; pending = c.self.inside.pending } in
    let b : DbValue g.row.D.Denot = record { frames = c.look.new.self; pending = c.self.inside.pending } in
    let d : DbValue g.row.D.Denot = c.hold_page.new.self in
    let e = c.look.ensures in
    let h = c.in_ok-held.ensures in
    let some = c.requires.holding in
    let before = subst (λ (s : DbValue g.row.D.Denot). IsHolding g.D.Disk s.frames c.args.pass.now some.0)
    (sym c.self.view_is) some.1 in
    subst (λ (s : DbValue g.row.D.Denot). WorksOn g.D.Disk s c.args.pass.now d c.hold_page.new.pass) c.self.view_is
    (works_in_turn g.D.Disk a b d c.args.pass.now c.look.new.pass c.hold_page.new.pass
    (looked g.D.Disk a b refl c.args.pass.now c.look.new.pass e.pass e.sees_on e.added e.keeps e.rises e.keeps.xid
    e.runs_on
    e.state e.pins e.others e.calm e.begins)
    (held_works g.D.Disk b d c.look.new.pass c.hold_page.new.pass c.in-Some.page c.in_ok-held.held some.0 h.pass
    h.carries h.goes h.state h.pins h.keeps h.rises h.others h.number (h.holding some.0 (e.holding some.0 before))))

pub returns-then-is_new-clause-new : goal.returns-then-is_new-clause-new
returns-then-is_new-clause-new g c =
    let p : Pass = c.args.pass.now in
    let q : Pass = c.look.new.pass in
    let a : DbValue g.row.D.Denot = c.args.self.now in
    let b : DbValue g.row.D.Denot = record { frames = c.look.new.self; pending = c.self.inside.pending } in
    let l = c.look.ensures in
    let asked = subst (λ (s : DbValue g.row.D.Denot). WorksOn g.D.Disk s p b q) c.self.view_is
    (looked g.D.Disk (record {
      frames = c.self.inside.frames;
      pending = c.self.inside.pending;
    }) b refl p q l.pass l.sees_on l.added l.keeps l.rises l.keeps.xid
    l.runs_on l.state l.pins l.others l.calm l.begins) in
    let e = c.in_ok-page.ensures in
    let answer = subst (λ (o : Option (ℕ × ℕ)). new_page_answer (record {}) (state_of b) q.floor q.since o) c.in-Some.is
    e.answers in
    let h = c.in_ok-held.ensures in
    let d : DbValue g.row.D.Denot = c.hold_page.new.self in
    let r : Pass = c.hold_page.new.pass in
    let x : Sheet = c.in_ok-held.held in
    let some = c.requires.holding in
    let still : (held : List Sheet) → IsHolding g.D.Disk a.frames p held → IsHolding g.D.Disk b.frames q held =
    λ held is. l.holding held
    (subst (λ (s : DbValue g.row.D.Denot). IsHolding g.D.Disk s.frames p held) (sym c.self.view_is) is) in
    let works = held_works g.D.Disk b d q r c.in-Some.page x some.0 h.pass h.carries h.goes h.state h.pins h.keeps
    h.rises h.others h.number (h.holding some.0 (still some.0 some.1)) in
    took_new g.D.Disk a b p q c.in-Some.page c.in-Some.since asked e.since e.all answer.0 answer.1 d r x still works
    h.number h.lies h.holding some
    (subst (IsNew d c.in-Some.since) c.page.ensures.value ((c.is_new.ensures).0 c.if-is_new.true))

pub returns-clause-on : goal.returns-clause-on
returns-clause-on g c =
    let p : Pass = c.args.pass.now in
    let q : Pass = c.look.new.pass in
    let a : DbValue g.row.D.Denot = c.args.self.now in
    let b : DbValue g.row.D.Denot = record { frames = c.look.new.self; pending = c.self.inside.pending } in
    let l = c.look.ensures in
    let asked = subst (λ (s : DbValue g.row.D.Denot). WorksOn g.D.Disk s p b q) c.self.view_is
    (looked g.D.Disk (record {
      frames = c.self.inside.frames;
      pending = c.self.inside.pending;
    }) b refl p q l.pass l.sees_on l.added l.keeps l.rises l.keeps.xid
    l.runs_on l.state l.pins l.others l.calm l.begins) in
    let h = c.in_ok-held.ensures in
    let d : DbValue g.row.D.Denot = c.hold_page.new.self in
    let r : Pass = c.hold_page.new.pass in
    let x : Sheet = c.in_ok-held.held in
    let some = c.requires.holding in
    let still : (held : List Sheet) → IsHolding g.D.Disk a.frames p held → IsHolding g.D.Disk b.frames q held =
    λ held is. l.holding held
    (subst (λ (s : DbValue g.row.D.Denot). IsHolding g.D.Disk s.frames p held) (sym c.self.view_is) is) in
    let works = held_works g.D.Disk b d q r c.in-Some.page x some.0 h.pass h.carries h.goes h.state h.pins h.keeps
    h.rises h.others h.number (h.holding some.0 (still some.0 some.1)) in
    let last = c.release.ensures in
    released g.D.Disk a (record { frames = c.self-2.inside.frames; pending = c.self-2.inside.pending })
    (record { frames = c.release.new.self; pending = c.self-2.inside.pending }) refl p r
    c.release.new.pass x
    (subst (λ (s : DbValue g.row.D.Denot). WorksOn g.D.Disk a p s r) (sym c.self-2.view_is)
    (works_in_turn g.D.Disk a b d p q r asked works))
    (asked.lying x.page x.content (subst (λ (n : ℕ). Lies b n x.content) (sym h.number) h.lies))
    last.pass last.sees_on last.added last.rises last.same last.runs_on last.state last.pins last.lies last.others
    last.calm last.begins

pub returns-clause-used : goal.returns-clause-used
returns-clause-used g c =
    let p : Pass = c.args.pass.now in
    let q : Pass = c.look.new.pass in
    let a : DbValue g.row.D.Denot = c.args.self.now in
    let b : DbValue g.row.D.Denot = record { frames = c.look.new.self; pending = c.self.inside.pending } in
    let l = c.look.ensures in
    let asked = subst (λ (s : DbValue g.row.D.Denot). WorksOn g.D.Disk s p b q) c.self.view_is
    (looked g.D.Disk (record {
      frames = c.self.inside.frames;
      pending = c.self.inside.pending;
    }) b refl p q l.pass l.sees_on l.added l.keeps l.rises l.keeps.xid
    l.runs_on l.state l.pins l.others l.calm l.begins) in
    let e = c.in_ok-page.ensures in
    let answer = subst (λ (o : Option (ℕ × ℕ)). new_page_answer (record {}) (state_of b) q.floor q.since o) c.in-Some.is
    e.answers in
    let d : DbValue g.row.D.Denot = record { frames = c.release.new.self; pending = c.self-2.inside.pending } in
    let x : Sheet = c.in_ok-held.held in
    let up : IsUp b = l.calm.down
    ∙ up_at_pin (down_of c.self.inside.frames.journal.wal) c.look.result _ l.is_down c.in_ok-page.was in
    was_used g.D.Disk a b p q c.in-Some.page c.in-Some.since asked e.since e.all answer.0 answer.1 d x.content up
    (subst IsPage c.page.ensures.value c.page.ensures.is_page) c.in_ok-held.ensures.lies
    (λ new.
    let is = (c.is_new.ensures).1 (subst (IsNew b c.in-Some.since) (sym c.page.ensures.value) new) in
    let z : true ≡ false = sym is ∙ c.if-is_new.false in cc)

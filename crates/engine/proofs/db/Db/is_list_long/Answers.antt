-- Whether the pending list is long: the metapage is held, and given back.
use Rattle.std.proofs.Common.{◌≡◌, [], sym, ap, subst, ◌∙◌, arith}
use Rattle.std.specs.Prelude.{Result, IfErr}
use Rattle.std.proofs.lemmas.Result.{err_from_is_err_and}
use Rattle.page_types.specs.Pages.{IsPage}
use Rattle.page_types.specs.declared.page.Page.{Page}
use Rattle.buffer_frames.proofs.AtHand.{none_held}
use Rattle.engine.specs.Cleaning.{CannotLook}
use Rattle.engine.specs.declared.error.DbError.{DbError}
use Rattle.engine.specs.Db.{DbValue}
use Rattle.engine.proofs.Paths.{goes_on, none_in_turn, pending_of}
use Rattle.engine.proofs.Tidying.{held_session, back_session, looks_by, long_by, by_long}
use Rattle.engine.proofs.db.Db.is_list_long.Goals as goal

pub returns-in_err-meta-clause-session : goal.returns-in_err-meta-clause-session
returns-in_err-meta-clause-session g c =
    let h = c.in_err-meta.ensures in
    held_session c.args.self.now c.hold_page.new.self c.args.pass.now c.hold_page.new.pass c.requires.session h.pass
    h.held h.keeps h.state

pub returns-in_err-meta-clause-keeps : goal.returns-in_err-meta-clause-keeps
returns-in_err-meta-clause-keeps g c =
    let h = c.in_err-meta.ensures in record { room = h.keeps.room; shown = h.keeps.shown }

pub returns-in_err-meta-clause-cause : goal.returns-in_err-meta-clause-cause
returns-in_err-meta-clause-cause g c =
    let p = err_from_is_err_and c.from_residual.result c.from_residual.ensures.1 in
    let Why = CannotLook c.args.self.now in
    subst (λ (r : Result _ DbError). IfErr r Why) (sym p.1)
    (subst Why (sym p.2) (looks_by g.D.Disk c.args.self.now _ c.requires.up c.in_err-meta.ensures.cause))

pub give_back-requires-clause-holding : goal.give_back-requires-clause-holding
give_back-requires-clause-holding g c = (
  [],
  c.in_ok-meta.ensures.holding []
      (none_held g.D.Disk c.args.self.now.frames c.args.pass.now c.requires.session.rests.is_pass
      c.requires.session.rests.idle.1),
)

pub returns-clause-session : goal.returns-clause-session
returns-clause-session g c =
    let h = c.in_ok-meta.ensures in
    back_session g.D.Disk c.args.self.now c.hold_page.new.self c.give_back.new.self c.args.pass.now
    c.hold_page.new.pass c.give_back.new.pass c.in_ok-meta.meta c.requires.session h.keeps h.state
    (h.holding []
    (none_held g.D.Disk c.args.self.now.frames c.args.pass.now c.requires.session.rests.is_pass
    c.requires.session.rests.idle.1)) c.give_back.ensures

pub returns-clause-goes : goal.returns-clause-goes
returns-clause-goes g c = goes_on g.D.Disk c.in_ok-meta.ensures.goes c.give_back.ensures.goes

pub returns-clause-long : goal.returns-clause-long
returns-clause-long g c =
    let h = c.in_ok-meta.ensures in
    let n = c.names_more-long.ensures in
    let at = c.page.ensures.value in
    let is = subst IsPage at c.page.ensures.is_page in
    let pending : c.self.inside.pending ≡ c.args.self.now.pending =
    ap (λ (s : DbValue g.row.D.Denot). s.pending) c.self.view_is ∙ pending_of g.D.Disk h.goes in (
      λ yes. let m = n.0 yes in
          long_by c.args.self.now c.in_ok-meta.meta.content is h.lies
          (m.0, m.1, m.2, ap (λ (p : Page). p.body) (sym at) ∙ m.3, omega (arith, pending, m.4)),
      λ long. let m = by_long c.args.self.now c.in_ok-meta.meta.content h.lies long in
          n.1 (m.0, m.1, m.2, ap (λ (p : Page). p.body) at ∙ m.3, omega (arith, pending, m.4)),
    )

pub returns-clause-keeps : goal.returns-clause-keeps
returns-clause-keeps g c =
    let h = c.in_ok-meta.ensures in
    let b = c.give_back.ensures in
    record { room = b.keeps.room ∙ h.keeps.room; shown = omega (arith, h.keeps.shown, b.keeps.shown) }

pub returns-clause-fault : goal.returns-clause-fault
returns-clause-fault g c = none_in_turn g.D.Disk c.in_ok-meta.ensures.fault c.give_back.ensures.met

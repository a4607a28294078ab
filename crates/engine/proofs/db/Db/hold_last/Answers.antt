-- The last page of the pending list is held, or given back where it is another.
use Rattle.std.proofs.Common.{◌≡◌, ℕ, true, false, [], ◌∷◌, sym, subst, ◌∙◌}
use Rattle.std.specs.Prelude.{Result, IfErr}
use Rattle.std.proofs.lemmas.Result.{err_from_is_err_and}
use Rattle.page_types.specs.Pages.{IsPage}
use Rattle.pending_list.specs.Adding.{IsPendingPage}
use Rattle.core_state.specs.Allowed.{Sheet}
use Rattle.engine.specs.Inner.Indexing.{CannotHoldLast}
use Rattle.engine.specs.declared.error.DbError.{DbError}
use Rattle.engine.specs.Places.{Lies}
use Rattle.engine.proofs.Choosing.{held_works, refused_works}
use Rattle.engine.proofs.ListEnds.{works_back, no_more_back, last_held, last_other, lies_back}
use Rattle.engine.proofs.Paths.{none_in_turn}
use Rattle.engine.proofs.db.Db.hold_last.Goals as goal

pub returns-in_err-held-clause-on : goal.returns-in_err-held-clause-on
returns-in_err-held-clause-on g c =
    let h = c.in_err-held.ensures in
    refused_works g.D.Disk c.args.self.now c.hold_page.new.self c.args.pass.now c.hold_page.new.pass h.pass h.carries
    h.goes h.state h.pins h.keeps h.rises h.unmoved

pub returns-in_err-held-clause-cause : goal.returns-in_err-held-clause-cause
returns-in_err-held-clause-cause g c =
    let p = err_from_is_err_and c.from_residual.result c.from_residual.ensures.1 in
    let Why = CannotHoldLast g.D.Disk c.args.self.now c.args.last in
    subst (λ (r : Result Sheet DbError). IfErr r Why) (sym p.1)
    (subst Why (sym p.2) (last_held g.D.Disk c.args.self.now c.args.last _ c.in_err-held.ensures.cause))

pub returns-then-is_pending-clause-on : goal.returns-then-is_pending-clause-on
returns-then-is_pending-clause-on g c =
    let h = c.in_ok-held.ensures in
    let some = c.requires.holding in
    held_works g.D.Disk c.args.self.now c.hold_page.new.self c.args.pass.now c.hold_page.new.pass c.args.last
    c.in_ok-held.held some.0 h.pass h.carries h.goes h.state h.pins h.keeps h.rises h.others h.number
    (h.holding some.0 some.1)

pub returns-then-is_pending-clause-rows : goal.returns-then-is_pending-clause-rows
returns-then-is_pending-clause-rows g c =
    subst IsPendingPage c.page.ensures.value ((c.is_pending.ensures).0 c.if-is_pending.true)

pub returns-then-is_pending-clause-is_page : goal.returns-then-is_pending-clause-is_page
returns-then-is_pending-clause-is_page g c = subst IsPage c.page.ensures.value c.page.ensures.is_page

pub give_back-requires-clause-holding : goal.give_back-requires-clause-holding
give_back-requires-clause-holding g c =
    let some = c.requires.holding in (some.0, c.in_ok-held.ensures.holding some.0 some.1)

pub returns-clause-on : goal.returns-clause-on
returns-clause-on g c =
    let h = c.in_ok-held.ensures in
    let some = c.requires.holding in
    works_back g.D.Disk c.args.self.now c.hold_page.new.self c.give_back.new.self c.args.pass.now c.hold_page.new.pass
    c.give_back.new.pass (c.in_ok-held.held ∷ [])
    (held_works g.D.Disk c.args.self.now c.hold_page.new.self c.args.pass.now c.hold_page.new.pass c.args.last
    c.in_ok-held.held some.0 h.pass h.carries h.goes h.state h.pins h.keeps h.rises h.others h.number
    (h.holding some.0 some.1))
    c.give_back.ensures
    (lies_back g.D.Disk c.args.self.now c.in_ok-held.held
    (subst (λ (n : ℕ). Lies c.args.self.now n c.in_ok-held.held.content) (sym h.number) h.lies))

pub returns-clause-fault : goal.returns-clause-fault
returns-clause-fault g c = none_in_turn g.D.Disk c.in_ok-held.ensures.fault c.give_back.ensures.met

pub returns-clause-still : goal.returns-clause-still
returns-clause-still g c =
    no_more_back g.D.Disk c.args.self.now c.hold_page.new.self c.give_back.new.self c.args.pass.now
    c.hold_page.new.pass c.give_back.new.pass c.in_ok-held.held c.in_ok-held.ensures.holding c.give_back.ensures
    c.requires.holding

pub returns-clause-cause : goal.returns-clause-cause
returns-clause-cause g c =
    last_other g.D.Disk c.args.self.now c.args.last c.in_ok-held.held.content
    (subst IsPage c.page.ensures.value c.page.ensures.is_page) c.in_ok-held.ensures.lies
    (λ rows.
    let is = (c.is_pending.ensures).1 (subst IsPendingPage (sym c.page.ensures.value) rows) in
    let z : true ≡ false = sym is ∙ c.if-is_pending.false in cc)

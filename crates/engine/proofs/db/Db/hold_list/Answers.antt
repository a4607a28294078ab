-- The end of the pending list is held.
use Rattle.std.proofs.Common.{ℕ, [], ◌∷◌, refl, sym, ap, subst, ◌∙◌}
use Rattle.std.specs.Prelude.{Result, Err, IfErr}
use Rattle.std.proofs.lemmas.Result.{err_from_is_err_and}
use Rattle.page_types.specs.Pages.{IsPage}
use Rattle.page_types.specs.declared.page.Page.{Page}
use Rattle.core_state.specs.Allowed.{Sheet}
use Rattle.engine.specs.Places.{Lies}
use Rattle.engine.specs.Inner.Choosing.{WorksOn}
use Rattle.engine.specs.Inner.Indexing.{CannotHoldList}
use Rattle.engine.specs.declared.list_end.ListEnd.{ListEnd}
use Rattle.engine.specs.declared.error.DbError.{DbError}
use Rattle.engine.proofs.Choosing.{held_works, refused_works, works_in_turn}
use Rattle.engine.proofs.ListEnds.{works_back, no_more_back, lies_back, meta_held, meta_other, last_of_meta, empty_end}
use Rattle.engine.proofs.ListEnds.{some_end, told_given}
use Rattle.engine.proofs.Paths.{none_in_turn, told_in_turn, time_of}
use Rattle.engine.proofs.Running.{told_again}
use Rattle.engine.proofs.db.Db.hold_list.Goals as goal

pub returns-in_err-meta-clause-on : goal.returns-in_err-meta-clause-on
returns-in_err-meta-clause-on g c =
    let h = c.in_err-meta.ensures in
    refused_works g.D.Disk c.args.self.now c.hold_page.new.self c.args.pass.now c.hold_page.new.pass h.pass h.carries
    h.goes h.state h.pins h.keeps h.rises h.unmoved

pub returns-in_err-meta-clause-cause : goal.returns-in_err-meta-clause-cause
returns-in_err-meta-clause-cause g c =
    let p = err_from_is_err_and c.from_residual.result c.from_residual.ensures.1 in
    let Why = CannotHoldList g.D.Disk c.args.self.now in
    subst (λ (r : Result ListEnd DbError). IfErr r Why) (sym p.1)
    (subst Why (sym p.2) (meta_held g.D.Disk c.args.self.now _ c.in_err-meta.ensures.cause))

-- ── page 0 is no metapage ──

pub returns-in_default-clause-on : goal.returns-in_default-clause-on
returns-in_default-clause-on g c =
    let h = c.in_ok-meta.ensures in
    let some = c.requires.holding in
    works_back g.D.Disk c.args.self.now c.hold_page.new.self c.give_back.new.self c.args.pass.now c.hold_page.new.pass
    c.give_back.new.pass (c.in_ok-meta.meta ∷ [])
    (held_works g.D.Disk c.args.self.now c.hold_page.new.self c.args.pass.now c.hold_page.new.pass 0
    c.in_ok-meta.meta some.0 h.pass h.carries h.goes h.state h.pins h.keeps h.rises h.others h.number
    (h.holding some.0 some.1))
    c.give_back.ensures
    (lies_back g.D.Disk c.args.self.now c.in_ok-meta.meta
    (subst (λ (n : ℕ). Lies c.args.self.now n c.in_ok-meta.meta.content) (sym h.number) h.lies))

pub returns-in_default-clause-fault : goal.returns-in_default-clause-fault
returns-in_default-clause-fault g c = none_in_turn g.D.Disk c.in_ok-meta.ensures.fault c.give_back.ensures.met

pub returns-in_default-clause-still : goal.returns-in_default-clause-still
returns-in_default-clause-still g c =
    no_more_back g.D.Disk c.args.self.now c.hold_page.new.self c.give_back.new.self c.args.pass.now
    c.hold_page.new.pass c.give_back.new.pass c.in_ok-meta.meta c.in_ok-meta.ensures.holding c.give_back.ensures
    c.requires.holding

pub returns-in_default-clause-cause : goal.returns-in_default-clause-cause
returns-in_default-clause-cause g c =
    meta_other g.D.Disk c.args.self.now c.in_ok-meta.meta.content
    (subst IsPage c.page.ensures.value c.page.ensures.is_page) c.in_ok-meta.ensures.lies
    (λ first last count e.
    c.in_default.ensures first last count (ap (λ (p : Page). p.body) c.page.ensures.value ∙ e))

-- ── the list is empty ──

pub returns-then-last-eq0-clause-on : goal.returns-then-last-eq0-clause-on
returns-then-last-eq0-clause-on g c =
    let h = c.in_ok-meta.ensures in
    let some = c.requires.holding in
    held_works g.D.Disk c.args.self.now c.hold_page.new.self c.args.pass.now c.hold_page.new.pass 0
    c.in_ok-meta.meta some.0 h.pass h.carries h.goes h.state h.pins h.keeps h.rises h.others h.number
    (h.holding some.0 some.1)

pub returns-then-last-eq0-clause-is_end : goal.returns-then-last-eq0-clause-is_end
returns-then-last-eq0-clause-is_end g c =
    empty_end c.in_ok-meta.meta c.in-Some.first c.in-Some.last c.in-Some.pages c.in_ok-meta.ensures.number
    (ap (λ (p : Page). p.body) (sym c.page.ensures.value) ∙ c.in-Some.ensures.0) c.in-Some.ensures.1
    (subst IsPage c.page.ensures.value c.page.ensures.is_page) c.if-last-eq0.true

-- ── the last page is held ──

pub returns-in-Ok-clause-on : goal.returns-in-Ok-clause-on
returns-in-Ok-clause-on g c =
    let h = c.in_ok-meta.ensures in
    let some = c.requires.holding in
    works_in_turn g.D.Disk c.args.self.now c.hold_page.new.self c.hold_last.new.self c.args.pass.now
    c.hold_page.new.pass c.hold_last.new.pass
    (held_works g.D.Disk c.args.self.now c.hold_page.new.self c.args.pass.now c.hold_page.new.pass 0
    c.in_ok-meta.meta some.0 h.pass h.carries h.goes h.state h.pins h.keeps h.rises h.others h.number
    (h.holding some.0 some.1))
    c.hold_last.ensures.on

pub returns-in-Ok-clause-is_end : goal.returns-in-Ok-clause-is_end
returns-in-Ok-clause-is_end g c =
    let l = c.in-Ok.ensures in
    some_end c.in_ok-meta.meta c.in-Ok.held c.in-Some.first c.in-Some.last c.in-Some.pages c.in_ok-meta.ensures.number
    (ap (λ (p : Page). p.body) (sym c.page.ensures.value) ∙ c.in-Some.ensures.0) c.in-Some.ensures.1
    (subst IsPage c.page.ensures.value c.page.ensures.is_page) l.number (λ e. c.if-last-eq0.false e) l.rows l.is_page

pub returns-in-Ok-clause-lies : goal.returns-in-Ok-clause-lies
returns-in-Ok-clause-lies g c =
    let h = c.in_ok-meta.ensures in
    let some = c.requires.holding in
    let l = c.in-Ok.ensures in
    let w : WorksOn g.D.Disk c.args.self.now c.args.pass.now c.hold_page.new.self c.hold_page.new.pass =
    held_works g.D.Disk c.args.self.now c.hold_page.new.self c.args.pass.now c.hold_page.new.pass 0
    c.in_ok-meta.meta some.0 h.pass h.carries h.goes h.state h.pins h.keeps h.rises h.others h.number
    (h.holding some.0 some.1) in
    record {
      meta = h.lies;
      last = w.lying c.in-Ok.held.page c.in-Ok.held.content
          (subst (λ (n : ℕ). Lies c.hold_page.new.self n c.in-Ok.held.content) (sym l.number) l.lies);
    }

pub returns-in-Ok-clause-holding : goal.returns-in-Ok-clause-holding
returns-in-Ok-clause-holding g c = λ held h.
    c.in-Ok.ensures.holding (c.in_ok-meta.meta ∷ held) (c.in_ok-meta.ensures.holding held h)

-- ── it isn't ──

pub give_back-requires-in-Err-clause-holding : goal.give_back-requires-in-Err-clause-holding
give_back-requires-in-Err-clause-holding g c =
    let some = c.requires.holding in (
      some.0,
      c.in-Err.ensures.still.holding (c.in_ok-meta.meta ∷ some.0) (c.in_ok-meta.ensures.holding some.0 some.1),
    )

pub returns-in-Err-clause-on : goal.returns-in-Err-clause-on
returns-in-Err-clause-on g c =
    let h = c.in_ok-meta.ensures in
    let some = c.requires.holding in
    works_back g.D.Disk c.args.self.now c.hold_last.new.self c.give_back-in-Err.new.self c.args.pass.now
    c.hold_last.new.pass c.give_back-in-Err.new.pass (c.in_ok-meta.meta ∷ [])
    (works_in_turn g.D.Disk c.args.self.now c.hold_page.new.self c.hold_last.new.self c.args.pass.now
    c.hold_page.new.pass c.hold_last.new.pass
    (held_works g.D.Disk c.args.self.now c.hold_page.new.self c.args.pass.now c.hold_page.new.pass 0
    c.in_ok-meta.meta some.0 h.pass h.carries h.goes h.state h.pins h.keeps h.rises h.others h.number
    (h.holding some.0 some.1))
    c.hold_last.ensures.on)
    c.give_back-in-Err.ensures
    (lies_back g.D.Disk c.args.self.now c.in_ok-meta.meta
    (subst (λ (n : ℕ). Lies c.args.self.now n c.in_ok-meta.meta.content) (sym h.number) h.lies))

pub returns-in-Err-clause-fault : goal.returns-in-Err-clause-fault
returns-in-Err-clause-fault g c =
    let r : Result Sheet DbError = Err c.in-Err.error in
    let q : Result ListEnd DbError = Err c.in-Err.error in
    told_given g.D.Disk c.args.self.now c.hold_last.new.self c.give_back-in-Err.new.self c.hold_last.new.pass
    c.give_back-in-Err.new.pass (c.in_ok-meta.meta ∷ []) q
    (told_in_turn g.D.Disk c.args.self.now c.hold_page.new.self c.hold_last.new.self q
    (time_of g.D.Disk c.hold_page.ensures.goes) c.in_ok-meta.ensures.fault
    (told_again g.D.Disk c.hold_page.new.self c.hold_last.new.self c.in-Err.error r q refl refl c.in-Err.ensures.fault))
    c.give_back-in-Err.ensures

pub returns-in-Err-clause-still : goal.returns-in-Err-clause-still
returns-in-Err-clause-still g c =
    no_more_back g.D.Disk c.args.self.now c.hold_last.new.self c.give_back-in-Err.new.self c.args.pass.now
    c.hold_last.new.pass c.give_back-in-Err.new.pass c.in_ok-meta.meta
    (λ held h. c.in-Err.ensures.still.holding (c.in_ok-meta.meta ∷ held) (c.in_ok-meta.ensures.holding held h))
    c.give_back-in-Err.ensures c.requires.holding

pub returns-in-Err-clause-cause : goal.returns-in-Err-clause-cause
returns-in-Err-clause-cause g c =
    last_of_meta g.D.Disk c.args.self.now c.hold_page.new.self c.in_ok-meta.meta.content c.in-Some.first c.in-Some.last
    c.in-Some.pages c.in-Err.error (subst IsPage c.page.ensures.value c.page.ensures.is_page) c.in_ok-meta.ensures.lies
    (ap (λ (p : Page). p.body) (sym c.page.ensures.value) ∙ c.in-Some.ensures.0) (λ e. c.if-last-eq0.false e)
    c.in_ok-meta.ensures.others (c.in_ok-meta.ensures.fault).down c.in-Err.ensures.cause

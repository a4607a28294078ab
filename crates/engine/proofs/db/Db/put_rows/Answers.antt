-- The pages of a document's rows are put from the last to the first.
use Rattle.std.proofs.Common.{◌<◌, ℕ, List, length, sym, subst}
use Rattle.std.specs.Prelude.{Result, IfErr, OnErr}
use Rattle.std.specs.List.{AllByRecursion}
use Rattle.std.proofs.lemmas.Result.{err_from_is_err_and}
use Rattle.page_types.specs.declared.record.Record.{Record}
use Rattle.engine.specs.Answers.{MeetsNoBadPage}
use Rattle.engine.specs.Going.{Goes}
use Rattle.engine.specs.Work.{IsRowPageOf}
use Rattle.engine.specs.Inner.Changing.{doc_of}
use Rattle.engine.specs.Inner.Indexing.{CannotPutRows}
use Rattle.engine.specs.declared.error.DbError.{DbError}
use Rattle.engine.proofs.Paths.{time_of, told_in_turn}
use Rattle.engine.proofs.ReadSteps.{refused_told}
use Rattle.engine.proofs.RowPuts.{RowsSoFar, rows_begin, next_is_page, next_is_pending, next_has, rows_more, rows_some}
use Rattle.engine.proofs.RowPuts.{rows_cause, rows_lawful, rows_all, rows_has, then_new, then_same, none_popped}
use Rattle.engine.proofs.db.Db.put_rows.Goals as goal

pub loop-page-init : goal.loop-page-init
loop-page-init g c =
    rows_begin g.D.Disk c.args.self.now c.args.pass.now c.args.work c.args.name c.args.pages.items c.requires.running

pub put_row_page-requires-clause-is_page : goal.put_row_page-requires-clause-is_page
put_row_page-requires-clause-is_page g c =
    next_is_page g.D.Disk c.args.self.now c.loop-page.self c.args.pass.now c.loop-page.pass c.args.work c.args.name
    c.args.pages.items c.loop-page.pages.items c.pop.new.self.items c.in-Some.page c.loop-page.last
    c.loop-page.invariant c.in-Some.ensures.items c.requires.are_pages

pub put_row_page-requires-clause-pending : goal.put_row_page-requires-clause-pending
put_row_page-requires-clause-pending g c =
    let n = c.requires.packed in
    next_is_pending g.D.Disk c.args.self.now c.loop-page.self c.args.pass.now c.loop-page.pass c.args.work c.args.name
    c.args.pages.items c.loop-page.pages.items c.pop.new.self.items c.in-Some.page c.loop-page.last
    c.loop-page.invariant c.in-Some.ensures.items n.0 n.2 n.3

pub put_row_page-requires-clause-next : goal.put_row_page-requires-clause-next
put_row_page-requires-clause-next g c =
    next_has g.D.Disk c.args.self.now c.loop-page.self c.args.pass.now c.loop-page.pass c.args.work c.args.name
    c.args.pages.items c.loop-page.pages.items c.pop.new.self.items c.in-Some.page c.loop-page.last
    c.loop-page.invariant c.in-Some.ensures.items c.requires.packed

-- ── a page is refused ──

pub returns-in_err-number-clause-fault : goal.returns-in_err-number-clause-fault
returns-in_err-number-clause-fault g c =
    let p = err_from_is_err_and c.from_residual.result c.from_residual.ensures.1 in
    refused_told g.D.Disk c.args.self.now c.put_row_page.new.self c.put_row_page.result c.from_residual.result _
    p.0 c.in_err-number.was p.1 p.2
    (told_in_turn g.D.Disk c.args.self.now c.loop-page.self c.put_row_page.new.self c.put_row_page.result
    (time_of g.D.Disk c.loop-page.invariant.goes) c.loop-page.invariant.met c.put_row_page.ensures.fault)

pub returns-in_err-number-clause-refused : goal.returns-in_err-number-clause-refused
returns-in_err-number-clause-refused g c =
    let p = err_from_is_err_and c.from_residual.result c.from_residual.ensures.1 in
    subst (λ (r : Result ℕ DbError). OnErr r ((rs : List Record)
    × AllByRecursion (IsRowPageOf c.args.work.xid (doc_of c.args.name)) rs × (length rs < length c.args.pages.items)
    × Goes g.D.Disk c.args.self.now c.put_row_page.new.self rs)) (sym p.1)
    (rows_some g.D.Disk c.args.self.now c.loop-page.self c.args.pass.now c.loop-page.pass c.args.work c.args.name
    c.args.pages.items c.loop-page.pages.items c.pop.new.self.items c.in-Some.page c.loop-page.last
    c.loop-page.invariant c.in-Some.ensures.items c.put_row_page.new.self c.in_err-number.ensures.refused)

pub returns-in_err-number-clause-cause : goal.returns-in_err-number-clause-cause
returns-in_err-number-clause-cause g c =
    let p = err_from_is_err_and c.from_residual.result c.from_residual.ensures.1 in
    let Why = CannotPutRows g.D.Disk c.args.self.now c.args.work.xid c.args.name (length c.args.pages.items) in
    subst (λ (r : Result ℕ DbError). IfErr r Why) (sym p.1) (subst Why (sym p.2)
    (rows_cause g.D.Disk c.args.self.now c.loop-page.self c.args.pass.now c.loop-page.pass c.args.work c.args.name
    c.args.pages.items c.loop-page.pages.items c.pop.new.self.items c.in-Some.page c.loop-page.last
    c.loop-page.invariant c.in-Some.ensures.items _ c.in_err-number.ensures.cause))

pub returns-in_err-number-clause-lawful : goal.returns-in_err-number-clause-lawful
returns-in_err-number-clause-lawful g c =
    let p = err_from_is_err_and c.from_residual.result c.from_residual.ensures.1 in
    let none = MeetsNoBadPage g.D.Disk c.args.self.now in
    subst (λ (r : Result ℕ DbError). IfErr r none) (sym p.1) (subst none (sym p.2)
    (rows_lawful g.D.Disk c.args.self.now c.loop-page.self c.args.pass.now c.loop-page.pass c.args.work c.args.name
    c.args.pages.items c.loop-page.pages.items c.pop.new.self.items c.in-Some.page c.loop-page.last
    c.loop-page.invariant c.in-Some.ensures.items _ c.in_err-number.ensures.lawful))

-- ── one more is put ──

pub loop-page-preserved-then-last-eq0 : goal.loop-page-preserved-then-last-eq0
loop-page-preserved-then-last-eq0 g c =
    let e = c.in_ok-number.ensures in
    subst (λ (n : ℕ). RowsSoFar g.D.Disk c.args.self.now c.args.pass.now c.args.work c.args.name c.args.pages.items
    c.pop.new.self.items n c.put_row_page.new.self c.put_row_page.new.pass)
    (then_new c.loop-page.last c.in_ok-number.number c.if-last-eq0.true)
    (rows_more g.D.Disk c.args.self.now c.loop-page.self c.args.pass.now c.loop-page.pass c.args.work c.args.name
    c.args.pages.items c.loop-page.pages.items c.pop.new.self.items c.in-Some.page c.loop-page.last
    c.loop-page.invariant c.in-Some.ensures.items c.put_row_page.new.self c.put_row_page.new.pass
    c.in_ok-number.number e.running e.keeps e.fault e.goes e.put e.low)

pub loop-page-preserved : goal.loop-page-preserved
loop-page-preserved g c =
    let e = c.in_ok-number.ensures in
    subst (λ (n : ℕ). RowsSoFar g.D.Disk c.args.self.now c.args.pass.now c.args.work c.args.name c.args.pages.items
    c.pop.new.self.items n c.put_row_page.new.self c.put_row_page.new.pass)
    (then_same c.loop-page.last c.in_ok-number.number (λ z. c.if-last-eq0.false z))
    (rows_more g.D.Disk c.args.self.now c.loop-page.self c.args.pass.now c.loop-page.pass c.args.work c.args.name
    c.args.pages.items c.loop-page.pages.items c.pop.new.self.items c.in-Some.page c.loop-page.last
    c.loop-page.invariant c.in-Some.ensures.items c.put_row_page.new.self c.put_row_page.new.pass
    c.in_ok-number.number e.running e.keeps e.fault e.goes e.put e.low)

-- ── all are put ──

pub returns-clause-goes : goal.returns-clause-goes
returns-clause-goes g c =
    rows_all g.D.Disk c.args.self.now c.loop-page.self c.args.pass.now c.loop-page.pass c.args.work c.args.name
    c.args.pages.items c.loop-page.pages.items c.loop-page.last c.loop-page.invariant
    (none_popped c.loop-page.pages.items c.pop.new.self.items _ c.in_default.ensures.items c.in_default.ensures.rest
    c.in_default.ensures.cases.0)

pub returns-clause-put : goal.returns-clause-put
returns-clause-put g c =
    rows_has g.D.Disk c.args.self.now c.loop-page.self c.args.pass.now c.loop-page.pass c.args.work c.args.name
    c.args.pages.items c.loop-page.pages.items c.loop-page.last c.loop-page.invariant
    (none_popped c.loop-page.pages.items c.pop.new.self.items _ c.in_default.ensures.items c.in_default.ensures.rest
    c.in_default.ensures.cases.0)

-- A page of a document's rows is put.
use Rattle.std.proofs.Common.{◌<◌, ◌^◌, ℕ, [], ◌∷◌, sym, subst, ◌∙◌, arith}
use Rattle.std.specs.Prelude.{Result, IfErr, OnErr}
use Rattle.std.proofs.lemmas.Result.{err_from_is_err_and}
use Rattle.core_state.specs.Allowed.{Step}
use Rattle.buffer_frames.specs.Journals.{after_owed, next_record}
use Rattle.engine.specs.Answers.{MeetsNoBadPage}
use Rattle.engine.specs.Going.{Goes}
use Rattle.engine.specs.Work.{IsRowPageOf}
use Rattle.engine.specs.Inner.Changing.{ChangesDocument, CannotPutNew, doc_of}
use Rattle.engine.specs.Inner.Indexing.{IsRowPageStep, last_then}
use Rattle.engine.specs.Inner.Parts.{HasRows}
use Rattle.engine.specs.declared.error.DbError.{DbError}
use Rattle.engine.proofs.Carrying.{carries_on, keeps_on}
use Rattle.engine.proofs.LinkAnswers.{of_given}
use Rattle.engine.proofs.NewPuts.{lacks_calm, not_held, not_put, shows_rowed, lawful_not_held, lawful_not_put}
use Rattle.engine.proofs.RowPages.{row_page_may_log, row_page_record, row_page_then}
use Rattle.engine.proofs.Paths.{one_record, goes_on, goes_still, time_of, none_in_turn, told_in_turn}
use Rattle.engine.proofs.ReadSteps.{refused_told}
use Rattle.engine.proofs.Running.{running_on, running_still}
use Rattle.engine.proofs.StepSeen.{runs_after}
use Rattle.engine.proofs.db.Db.put_row_page.Goals as goal

-- ── its pages aren't held ──

pub returns-in-Err-clause-running : goal.returns-in-Err-clause-running
returns-in-Err-clause-running g c =
    let h = c.hold_with_new.ensures in
    running_still g.D.Disk c.args.self.now c.hold_with_new.new.self c.args.pass.now c.hold_with_new.new.pass c.args.work
    c.requires.running h.pass c.in-Err.ensures.still h.keeps h.carries

pub returns-in-Err-clause-cause : goal.returns-in-Err-clause-cause
returns-in-Err-clause-cause g c =
    not_held g.D.Disk (IsRowPageOf c.args.work.xid (doc_of c.args.name)) c.args.self.now c.args.name c.in-Err.error
    c.in-Err.ensures.cause

pub returns-in-Err-clause-lawful : goal.returns-in-Err-clause-lawful
returns-in-Err-clause-lawful g c =
    let n = c.requires.next in
    let run = c.requires.running in
    lawful_not_held g.D.Disk c.args.self.now c.args.name
    (shows_rowed g.D.Disk c.args.self.now c.args.pass.now c.args.work.xid c.args.name run.is_pass run.xid
    c.requires.place n.0 n.1 n.2 n.3 n.5) c.in-Err.error c.in-Err.ensures.cause

-- ── the step is made and logged ──

pub rows_step-made-requires-clause-page : goal.rows_step-made-requires-clause-page
rows_step-made-requires-clause-page g c = c.in-Ok.ensures.both.number

pub log_two-requires : goal.log_two-requires
log_two-requires g c =
    let run = c.requires.running in
    let next = c.requires.next in
    let x = c.args.work.xid in
    let h = c.hold_with_new.ensures in
    let b = c.in-Ok.ensures.both in
    let made = c.rows_step-made.ensures in
    let serial : c.args.name.serial < 2 ^ 64 = omega arith in
    record {
      is_pass = h.pass;
      holding = b.holding;
      calm = lacks_calm c.args.name c.in-Ok.held.0.content c.rows_step-made.result made.bad;
      may = λ step is. row_page_may_log g.D.Disk c.hold_with_new.new.self c.hold_with_new.new.pass c.in-Ok.held.0
          c.in-Ok.held.1 x c.args.name next.0 c.args.rows next.1 next.2 next.3 step ((h.keeps).xid ∙ run.xid) b.holding
          next.4 b.number
          (of_given
          (λ (s : Step). IsRowPageStep x c.args.name c.in-Ok.held.0.content c.args.rows.body c.in-Ok.held.1.page s)
          c.rows_step-made.result step is made.step)
          h.pass ((h.carries).rows x _ next.0 next.1 next.2 next.3 run.xid next.5) b.is_new serial;
    }

pub returns-in_err-log_two-clause-running : goal.returns-in_err-log_two-clause-running
returns-in_err-log_two-clause-running g c =
    let h = c.hold_with_new.ensures in
    let l = c.log_two.ensures in
    running_still g.D.Disk c.args.self.now c.log_two.new.self c.args.pass.now c.log_two.new.pass c.args.work
    c.requires.running l.pass l.none_held
    (keeps_on c.args.pass.now c.hold_with_new.new.pass c.log_two.new.pass h.keeps l.keeps)
    (carries_on g.D.Disk c.args.self.now c.hold_with_new.new.self c.log_two.new.self c.args.pass.now
    c.hold_with_new.new.pass c.log_two.new.pass (h.keeps).xid h.carries c.in_err-log_two.ensures.carries)

pub returns-in_err-log_two-clause-keeps : goal.returns-in_err-log_two-clause-keeps
returns-in_err-log_two-clause-keeps g c =
    keeps_on c.args.pass.now c.hold_with_new.new.pass c.log_two.new.pass c.hold_with_new.ensures.keeps
    c.log_two.ensures.keeps

pub returns-in_err-log_two-clause-fault : goal.returns-in_err-log_two-clause-fault
returns-in_err-log_two-clause-fault g c =
    let p = err_from_is_err_and c.from_residual.result c.from_residual.ensures.1 in
    refused_told g.D.Disk c.args.self.now c.log_two.new.self c.log_two.result c.from_residual.result _ p.0
    c.in_err-log_two.was p.1 p.2
    (told_in_turn g.D.Disk c.args.self.now c.hold_with_new.new.self c.log_two.new.self c.log_two.result
    (time_of g.D.Disk c.hold_with_new.ensures.goes) c.in-Ok.ensures.fault c.log_two.ensures.fault)

pub returns-in_err-log_two-clause-refused : goal.returns-in_err-log_two-clause-refused
returns-in_err-log_two-clause-refused g c =
    let p = err_from_is_err_and c.from_residual.result c.from_residual.ensures.1 in
    subst (λ (r : Result ℕ DbError). OnErr r (Goes g.D.Disk c.args.self.now c.log_two.new.self [])) (sym p.1)
    (goes_still g.D.Disk c.hold_with_new.ensures.goes c.in_err-log_two.ensures.refused)

pub returns-in_err-log_two-clause-cause : goal.returns-in_err-log_two-clause-cause
returns-in_err-log_two-clause-cause g c =
    let p = err_from_is_err_and c.from_residual.result c.from_residual.ensures.1 in
    let m = c.hold_with_new.new.self in
    let made = c.rows_step-made in
    let IsOne = IsRowPageOf c.args.work.xid (doc_of c.args.name) in
    let Why = CannotPutNew g.D.Disk IsOne c.args.self.now c.args.name in
    subst (λ (r : Result ℕ DbError). IfErr r Why) (sym p.1)
    (subst Why (sym p.2)
    (not_put g.D.Disk IsOne c.args.self.now c.args.name m c.hold_with_new.ensures.goes (c.in-Ok.ensures.fault).down
    made.result c.in-Ok.held.0.content c.in-Ok.ensures.both.lies made.ensures.bad
    (λ step is. row_page_record (after_owed m.frames.journal.owes m.frames.journal.state) c.args.work.xid c.args.name
    c.in-Ok.held.0.content c.args.rows.body c.in-Ok.held.1.page step
    (of_given (λ (s : Step). IsRowPageStep c.args.work.xid c.args.name c.in-Ok.held.0.content c.args.rows.body
    c.in-Ok.held.1.page s) made.result step is made.ensures.step))
    _ c.in_err-log_two.ensures.cause))

pub returns-in_err-log_two-clause-lawful : goal.returns-in_err-log_two-clause-lawful
returns-in_err-log_two-clause-lawful g c =
    let p = err_from_is_err_and c.from_residual.result c.from_residual.ensures.1 in
    let n = c.requires.next in
    let run = c.requires.running in
    subst (λ (r : Result ℕ DbError). IfErr r (λ e. MeetsNoBadPage g.D.Disk c.args.self.now e)) (sym p.1)
    (subst (MeetsNoBadPage g.D.Disk c.args.self.now) (sym p.2)
    (lawful_not_put g.D.Disk c.args.self.now c.args.name
    (shows_rowed g.D.Disk c.args.self.now c.args.pass.now c.args.work.xid c.args.name run.is_pass run.xid
    c.requires.place n.0 n.1 n.2 n.3 n.5) c.hold_with_new.new.self c.rows_step-made.result c.in-Ok.held.0.content
    c.in-Ok.ensures.both.lies c.rows_step-made.ensures.bad _ c.in_err-log_two.ensures.cause))

pub returns-clause-running : goal.returns-clause-running
returns-clause-running g c =
    let run = c.requires.running in
    let h = c.hold_with_new.ensures in
    let l = c.log_two.ensures in
    let y = c.in_ok-log_two.ensures.logged in
    let made = c.rows_step-made in
    let x = c.args.work.xid in
    running_on g.D.Disk c.args.self.now c.log_two.new.self c.args.pass.now c.log_two.new.pass c.args.work
    run l.pass l.none_held (keeps_on c.args.pass.now c.hold_with_new.new.pass c.log_two.new.pass h.keeps l.keeps)
    (runs_after g.D.Disk c.hold_with_new.new.self c.log_two.new.self c.hold_with_new.new.pass c.log_two.new.pass
    (c.in-Ok.held.1 ∷ c.in-Ok.held.0 ∷ []) y.step y.logs h.pass l.pass x ((h.keeps).xid ∙ run.xid)
    (subst (λ (q : Step). ChangesDocument q.kind) (sym (of_given (λ (s : Step). IsRowPageStep x c.args.name
    c.in-Ok.held.0.content c.args.rows.body c.in-Ok.held.1.page s) made.result y.step y.made_is
    made.ensures.step).step_is) tt) ((h.carries).runs x run.xid run.runs))

pub returns-clause-goes : goal.returns-clause-goes
returns-clause-goes g c =
    let m = c.hold_with_new.new.self in
    let y = c.in_ok-log_two.ensures.logged in
    let made = c.rows_step-made in (
      next_record m.frames.journal y.step,
      row_page_record (after_owed m.frames.journal.owes m.frames.journal.state) c.args.work.xid c.args.name
          c.in-Ok.held.0.content c.args.rows.body c.in-Ok.held.1.page y.step
          (of_given (λ (s : Step). IsRowPageStep c.args.work.xid c.args.name c.in-Ok.held.0.content c.args.rows.body
          c.in-Ok.held.1.page s) made.result y.step y.made_is made.ensures.step),
      goes_on g.D.Disk c.hold_with_new.ensures.goes (one_record g.D.Disk (y.logs).one),
    )

pub returns-clause-put : goal.returns-clause-put
returns-clause-put g c = λ v back last names next had.
    let run = c.requires.running in
    let h = c.hold_with_new.ensures in
    let b = c.in-Ok.ensures.both in
    let y = c.in_ok-log_two.ensures.logged in
    let made = c.rows_step-made in
    let x = c.args.work.xid in
    subst (λ (k : ℕ). HasRows g.D.Disk c.log_two.new.self c.log_two.new.pass x (doc_of c.args.name) v
    (c.args.rows ∷ back) (last_then last k) names) (sym c.number-number.ensures.value)
    (row_page_then g.D.Disk c.hold_with_new.new.self c.log_two.new.self c.hold_with_new.new.pass c.log_two.new.pass
    c.in-Ok.held.0 c.in-Ok.held.1 x c.args.name c.args.rows y.step b.number
    (of_given (λ (s : Step). IsRowPageStep x c.args.name c.in-Ok.held.0.content c.args.rows.body c.in-Ok.held.1.page s)
    made.result y.step y.made_is made.ensures.step) y.logs h.pass c.log_two.ensures.pass
    v back last names ((h.keeps).xid ∙ run.xid) next
    ((h.carries).rows x _ v back last names run.xid had))

pub returns-clause-keeps : goal.returns-clause-keeps
returns-clause-keeps g c =
    keeps_on c.args.pass.now c.hold_with_new.new.pass c.log_two.new.pass c.hold_with_new.ensures.keeps
    c.log_two.ensures.keeps

pub returns-clause-fault : goal.returns-clause-fault
returns-clause-fault g c =
    none_in_turn g.D.Disk c.in-Ok.ensures.fault c.in_ok-log_two.ensures.fault

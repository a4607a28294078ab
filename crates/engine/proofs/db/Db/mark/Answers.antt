-- The document of a name is marked.
use Rattle.std.proofs.Common.{◌≡◌, [], ◌∷◌, sym, subst, ◌∙◌}
use Rattle.std.specs.Prelude.{Result, Some, IfErr, OnErr}
use Rattle.std.proofs.lemmas.Result.{err_from_is_err_and}
use Rattle.core_state.specs.Allowed.{Step}
use Rattle.buffer_frames.specs.Journals.{next_record}
use Rattle.engine.specs.Db.{state_of}
use Rattle.engine.specs.Going.{Goes, stays}
use Rattle.engine.specs.Inner.Changing.{ChangesDocument, IsMarkStep}
use Rattle.engine.specs.Inner.Parts.{CannotMark, TellsOfMark, no_changes}
use Rattle.engine.specs.declared.error.DbError.{DbError}
use Rattle.engine.proofs.Carrying.{carries_on, holds_none, keeps_on}
use Rattle.engine.proofs.LawfulMarks.{held_tells, mark_tells_made}
use Rattle.engine.proofs.LinkAnswers.{of_given}
use Rattle.engine.proofs.Ending.{at_ok}
use Rattle.engine.proofs.Marking.{mark_may_log, marked_then, marks_it, there_of, held_cause, mark_not_logged, mark_calm}
use Rattle.engine.proofs.Paths.{one_record, goes_on, goes_still, time_of, none_in_turn}
use Rattle.engine.proofs.Paths.{told_in_turn}
use Rattle.engine.proofs.ReadSteps.{refused_told}
use Rattle.engine.proofs.Running.{running_on, running_still}
use Rattle.engine.proofs.StepSeen.{runs_after}
use Rattle.engine.proofs.db.Db.mark.Goals as goal

pub returns-in_err-held-clause-running : goal.returns-in_err-held-clause-running
returns-in_err-held-clause-running g c =
    let h = c.hold_page.ensures in
    running_still g.D.Disk c.args.self.now c.hold_page.new.self c.args.pass.now c.hold_page.new.pass c.args.work
    c.requires.running h.pass (c.in_err-held.ensures.held ∙ (c.requires.running).held) h.keeps h.carries

pub returns-in_err-held-clause-cause : goal.returns-in_err-held-clause-cause
returns-in_err-held-clause-cause g c =
    let p = err_from_is_err_and c.from_residual.result c.from_residual.ensures.1 in
    subst (λ (r : Result (Unit {0}) DbError). IfErr r
    (CannotMark g.D.Disk c.args.self.now c.args.work.snapshot c.args.work.xid c.args.name)) (sym p.1)
    (subst (CannotMark g.D.Disk c.args.self.now c.args.work.snapshot c.args.work.xid c.args.name) (sym p.2)
    (held_cause g.D.Disk c.args.self.now c.args.work.snapshot c.args.work.xid c.args.name _
    c.in_err-held.ensures.cause))

pub returns-in_err-held-clause-lawful : goal.returns-in_err-held-clause-lawful
returns-in_err-held-clause-lawful g c =
    let p = err_from_is_err_and c.from_residual.result c.from_residual.ensures.1 in
    subst (λ (r : Result (Unit {0}) DbError). IfErr r
    (TellsOfMark g.D.Disk c.args.self.now c.args.work.snapshot c.args.name)) (sym p.1)
    (subst (TellsOfMark g.D.Disk c.args.self.now c.args.work.snapshot c.args.name) (sym p.2)
    (held_tells g.D.Disk c.args.self.now c.args.pass.now c.args.work c.args.name c.requires.running _
    c.in_err-held.ensures.cause))

pub mark_held-made-requires-clause-holding : goal.mark_held-made-requires-clause-holding
mark_held-made-requires-clause-holding g c =
    c.in_ok-held.ensures.holding []
    (holds_none g.D.Disk c.args.self.now c.args.pass.now (c.requires.running).is_pass (c.requires.running).held)

pub log_one-requires : goal.log_one-requires
log_one-requires g c =
    let h = c.hold_page.ensures in
    let m = c.mark_held-made in
    let e = m.ensures in
    let x = c.args.work.xid in
    let page = c.in_ok-held.held.content in
    let first : c.hold_page.new.pass.xid ≡ Some x = (h.keeps).xid ∙ (c.requires.running).xid in
    record {
      is_pass = e.pass;
      holding = e.holding;
      calm = mark_calm c.hold_page.new.self (state_of m.new.self) c.args.work.snapshot x c.args.name page m.result
          e.cause;
      may = λ step is. mark_may_log g.D.Disk m.new.self m.new.pass c.in_ok-held.held c.args.work.snapshot x c.args.name
          step e.pass e.holding ((e.keeps).xid ∙ first) (at_ok m.result step is e.all)
          ((e.carries).changed x no_changes first
          ((h.carries).changed x no_changes (c.requires.running).xid c.requires.changed))
          (at_ok m.result step is e.told) c.in_ok-held.ensures.number (at_ok m.result step is e.may)
          (of_given (λ (s : Step). IsMarkStep x c.args.name page s) m.result step is e.step);
    }

pub returns-in_err-log_one-clause-running : goal.returns-in_err-log_one-clause-running
returns-in_err-log_one-clause-running g c =
    let h = c.hold_page.ensures in
    let m = c.mark_held-made in
    let e = m.ensures in
    let l = c.log_one.ensures in
    let keeps = keeps_on c.args.pass.now c.hold_page.new.pass m.new.pass h.keeps e.keeps in
    running_still g.D.Disk c.args.self.now c.log_one.new.self c.args.pass.now c.log_one.new.pass c.args.work
    c.requires.running l.pass l.none_held
    (keeps_on c.args.pass.now m.new.pass c.log_one.new.pass keeps l.keeps)
    (carries_on g.D.Disk c.args.self.now m.new.self c.log_one.new.self c.args.pass.now m.new.pass c.log_one.new.pass
    keeps.xid
    (carries_on g.D.Disk c.args.self.now c.hold_page.new.self m.new.self c.args.pass.now c.hold_page.new.pass
    m.new.pass (h.keeps).xid h.carries e.carries)
    c.in_err-log_one.ensures.carries)

pub returns-in_err-log_one-clause-fault : goal.returns-in_err-log_one-clause-fault
returns-in_err-log_one-clause-fault g c =
    let p = err_from_is_err_and c.from_residual-in_err-log_one.result c.from_residual-in_err-log_one.ensures.1 in
    let m = c.mark_held-made in
    refused_told g.D.Disk c.args.self.now c.log_one.new.self c.log_one.result c.from_residual-in_err-log_one.result _
    p.0 c.in_err-log_one.was p.1 p.2
    (told_in_turn g.D.Disk c.args.self.now m.new.self c.log_one.new.self c.log_one.result
    (time_of g.D.Disk (goes_still g.D.Disk c.hold_page.ensures.goes m.ensures.goes))
    (none_in_turn g.D.Disk c.in_ok-held.ensures.fault m.ensures.fault) c.log_one.ensures.fault)

pub returns-in_err-log_one-clause-refused : goal.returns-in_err-log_one-clause-refused
returns-in_err-log_one-clause-refused g c =
    let p = err_from_is_err_and c.from_residual-in_err-log_one.result c.from_residual-in_err-log_one.ensures.1 in
    let goes = goes_still g.D.Disk c.hold_page.ensures.goes c.mark_held-made.ensures.goes in
    subst (λ (r : Result (Unit {0}) DbError). OnErr r (Goes g.D.Disk c.args.self.now c.log_one.new.self [])) (sym p.1)
    (goes_still g.D.Disk goes c.in_err-log_one.ensures.refused)

pub returns-in_err-log_one-clause-cause : goal.returns-in_err-log_one-clause-cause
returns-in_err-log_one-clause-cause g c =
    let p = err_from_is_err_and c.from_residual-in_err-log_one.result c.from_residual-in_err-log_one.ensures.1 in
    let m = c.mark_held-made in
    let e = m.ensures in
    let Why = CannotMark g.D.Disk c.args.self.now c.args.work.snapshot c.args.work.xid c.args.name in
    subst (λ (r : Result (Unit {0}) DbError). IfErr r Why) (sym p.1)
    (subst Why (sym p.2)
    (mark_not_logged g.D.Disk c.args.self.now c.args.work.snapshot c.args.work.xid c.args.name
    c.in_ok-held.held.content e.is_page c.in_ok-held.ensures.lies (state_of m.new.self)
    ((e.state).state ∙ (c.hold_page.ensures.state).state) c.hold_page.new.self m.new.self
    (c.in_ok-held.ensures.fault).down (goes_still g.D.Disk c.hold_page.ensures.goes e.goes)
    (none_in_turn g.D.Disk c.in_ok-held.ensures.fault e.fault).down m.result e.cause e.may e.step _
    c.in_err-log_one.ensures.cause))

pub returns-in_err-log_one-clause-lawful : goal.returns-in_err-log_one-clause-lawful
returns-in_err-log_one-clause-lawful g c =
    let p = err_from_is_err_and c.from_residual-in_err-log_one.result c.from_residual-in_err-log_one.ensures.1 in
    let m = c.mark_held-made in
    let e = m.ensures in
    let Why = TellsOfMark g.D.Disk c.args.self.now c.args.work.snapshot c.args.name in
    subst (λ (r : Result (Unit {0}) DbError). IfErr r Why) (sym p.1)
    (subst Why (sym p.2)
    (mark_tells_made g.D.Disk c.args.self.now c.args.pass.now c.args.work c.args.name c.requires.running
    c.in_ok-held.held.content e.is_page c.in_ok-held.ensures.lies (state_of m.new.self)
    ((e.state).state ∙ (c.hold_page.ensures.state).state) c.hold_page.new.self m.new.self m.result e.cause _
    c.in_err-log_one.ensures.cause))

pub returns-clause-running : goal.returns-clause-running
returns-clause-running g c =
    let h = c.hold_page.ensures in
    let m = c.mark_held-made in
    let e = m.ensures in
    let l = c.log_one.ensures in
    let y = c.in_ok-log_one.ensures.logged in
    let x = c.args.work.xid in
    let first : c.hold_page.new.pass.xid ≡ Some x = (h.keeps).xid ∙ (c.requires.running).xid in
    let keeps = keeps_on c.args.pass.now c.hold_page.new.pass m.new.pass h.keeps e.keeps in
    let runs = (e.carries).runs x first ((h.carries).runs x (c.requires.running).xid (c.requires.running).runs) in
    running_on g.D.Disk c.args.self.now c.log_one.new.self c.args.pass.now c.log_one.new.pass c.args.work
    c.requires.running l.pass l.none_held
    (keeps_on c.args.pass.now m.new.pass c.log_one.new.pass keeps l.keeps)
    (runs_after g.D.Disk m.new.self c.log_one.new.self m.new.pass c.log_one.new.pass
    (c.in_ok-held.held ∷ []) y.step y.logs e.pass l.pass x ((e.keeps).xid ∙ first)
    (subst (λ (q : Step). ChangesDocument q.kind)
    (sym (of_given (λ (s : Step). IsMarkStep x c.args.name c.in_ok-held.held.content s) m.result y.step y.made_is
    e.step).step_is) tt) runs)

pub returns-clause-marked : goal.returns-clause-marked
returns-clause-marked g c =
    let h = c.hold_page.ensures in
    let m = c.mark_held-made in
    let e = m.ensures in
    let y = c.in_ok-log_one.ensures.logged in
    let x = c.args.work.xid in
    let page = c.in_ok-held.held.content in
    let first : c.hold_page.new.pass.xid ≡ Some x = (h.keeps).xid ∙ (c.requires.running).xid in
    let marks : IsMarkStep x c.args.name page y.step =
    of_given (λ (s : Step). IsMarkStep x c.args.name page s) m.result y.step y.made_is e.step in
    marked_then g.D.Disk m.new.self c.log_one.new.self m.new.pass c.log_one.new.pass
    (c.in_ok-held.held ∷ []) y.step y.logs e.pass c.log_one.ensures.pass x c.args.name page ((e.keeps).xid ∙ first)
    marks.place.1 marks
    ((e.carries).changed x no_changes first
    ((h.carries).changed x no_changes (c.requires.running).xid c.requires.changed))

pub returns-clause-goes : goal.returns-clause-goes
returns-clause-goes g c =
    let m = c.mark_held-made in
    let y = c.in_ok-log_one.ensures.logged in
    let page = c.in_ok-held.held.content in (
      next_record m.new.self.frames.journal y.step,
      marks_it g.D.Disk c.args.self.now c.args.work.snapshot c.args.work.xid c.args.name m.new.self page y.step
          (of_given (λ (s : Step). IsMarkStep c.args.work.xid c.args.name page s) m.result y.step y.made_is
          m.ensures.step),
      goes_on g.D.Disk (goes_still g.D.Disk c.hold_page.ensures.goes m.ensures.goes)
          (one_record g.D.Disk (y.logs).one),
    )

pub returns-clause-there : goal.returns-clause-there
returns-clause-there g c =
    let m = c.mark_held-made in
    let e = m.ensures in
    let y = c.in_ok-log_one.ensures.logged in (
      c.args.self.now,
      stays,
      there_of g.D.Disk c.args.self.now c.args.work.snapshot c.args.work.xid c.args.name c.in_ok-held.held.content
          e.is_page c.in_ok-held.ensures.lies (state_of m.new.self)
          ((e.state).state ∙ (c.hold_page.ensures.state).state) (at_ok m.result y.step y.made_is e.may),
    )

pub returns-in_err-log_one-clause-keeps : goal.returns-in_err-log_one-clause-keeps
returns-in_err-log_one-clause-keeps g c =
    keeps_on c.args.pass.now c.mark_held-made.new.pass c.log_one.new.pass
    (keeps_on c.args.pass.now c.hold_page.new.pass c.mark_held-made.new.pass c.hold_page.ensures.keeps
    c.mark_held-made.ensures.keeps) c.log_one.ensures.keeps

pub returns-clause-keeps : goal.returns-clause-keeps
returns-clause-keeps g c =
    keeps_on c.args.pass.now c.mark_held-made.new.pass c.log_one.new.pass
    (keeps_on c.args.pass.now c.hold_page.new.pass c.mark_held-made.new.pass c.hold_page.ensures.keeps
    c.mark_held-made.ensures.keeps) c.log_one.ensures.keeps

pub returns-clause-fault : goal.returns-clause-fault
returns-clause-fault g c =
    none_in_turn g.D.Disk (none_in_turn g.D.Disk c.in_ok-held.ensures.fault c.mark_held-made.ensures.fault)
    c.in_ok-log_one.ensures.fault

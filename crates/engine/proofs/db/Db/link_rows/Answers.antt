-- The pages of a document's rows are linked.
use Rattle.std.proofs.Common.{◌≡◌, ◌<◌, ◌^◌, [], ◌∷◌, ◌++◌, refl, sym, ap, subst, ◌∙◌, inr, arith}
use Rattle.std.specs.Prelude.{Result, Some, Err, IfErr}
use Rattle.std.proofs.lemmas.Result.{err_from_is_err_and}
use Rattle.core_state.specs.Allowed.{Step}
use Rattle.buffer_frames.specs.Journals.{after_owed}
use Rattle.engine.specs.Answers.{MeetsNoBadPage}
use Rattle.engine.specs.Work.{IsLinkOf}
use Rattle.engine.specs.Inner.Changing.{ChangesDocument, doc_of}
use Rattle.engine.specs.Inner.Indexing.{CannotLink, IsLinkStep, end_sheets}
use Rattle.engine.specs.declared.error.DbError.{DbError}
use Rattle.engine.specs.declared.list_end.ListEnd.{ListEnd}
use Rattle.engine.proofs.Carrying.{carries_on, holds_none, keeps_on}
use Rattle.engine.proofs.AddedRows.{links_then}
use Rattle.engine.proofs.LinkAnswers.{of_given, logged_running, logged_goes, logged_not, not_linked, link_held}
use Rattle.engine.proofs.LinkAnswers.{link_list, list_later, linked_all}
use Rattle.engine.proofs.Linking.{link_may_log, link_record}
use Rattle.engine.proofs.NewPuts.{lacks_calm, shows_rowed, lawful_held, lawful_not_put}
use Rattle.engine.proofs.ListEnds.{runs_back, told_given}
use Rattle.engine.proofs.Paths.{goes_still, time_of, none_in_turn, told_in_turn}
use Rattle.engine.proofs.ReadSteps.{if_err}
use Rattle.engine.proofs.Running.{running_still, told_again}
use Rattle.engine.proofs.db.Db.link_rows.Goals as goal

-- ── the page of its head isn't held ──

pub returns-in_err-heap-clause-running : goal.returns-in_err-heap-clause-running
returns-in_err-heap-clause-running g c =
    let h = c.hold_page.ensures in
    running_still g.D.Disk c.args.self.now c.hold_page.new.self c.args.pass.now c.hold_page.new.pass c.args.work
    c.requires.running h.pass (c.in_err-heap.ensures.held ∙ (c.requires.running).held) h.keeps h.carries

pub returns-in_err-heap-clause-cause : goal.returns-in_err-heap-clause-cause
returns-in_err-heap-clause-cause g c =
    let p = err_from_is_err_and c.from_residual.result c.from_residual.ensures.1 in
    let Why = CannotLink g.D.Disk c.args.self.now c.args.work.xid c.args.name in
    subst (λ (r : Result (Unit {0}) DbError). IfErr r Why) (sym p.1)
    (subst Why (sym p.2)
    (link_held g.D.Disk c.args.self.now c.args.work.xid c.args.name _ c.in_err-heap.ensures.cause))

pub returns-in_err-heap-clause-lawful : goal.returns-in_err-heap-clause-lawful
returns-in_err-heap-clause-lawful g c =
    let p = err_from_is_err_and c.from_residual.result c.from_residual.ensures.1 in
    let n = c.requires.put in
    let run = c.requires.running in
    subst (λ (r : Result (Unit {0}) DbError). IfErr r (λ e. MeetsNoBadPage g.D.Disk c.args.self.now e)) (sym p.1)
    (subst (MeetsNoBadPage g.D.Disk c.args.self.now) (sym p.2)
    (lawful_held g.D.Disk c.args.self.now c.args.name
    (shows_rowed g.D.Disk c.args.self.now c.args.pass.now c.args.work.xid c.args.name run.is_pass run.xid
    c.requires.place n.0 n.1 c.args.last n.2 n.5) _ c.in_err-heap.ensures.cause))

-- ── the end of the list isn't held ──

pub hold_list-requires-clause-few : goal.hold_list-requires-clause-few
hold_list-requires-clause-few g c =
    let held = c.in_ok-heap.ensures.holding []
    (holds_none g.D.Disk c.args.self.now c.args.pass.now (c.requires.running).is_pass (c.requires.running).held) in
    omega (arith, held.all)

pub hold_list-requires-clause-holding : goal.hold_list-requires-clause-holding
hold_list-requires-clause-holding g c = (
  c.in_ok-heap.heap ∷ [],
  c.in_ok-heap.ensures.holding []
      (holds_none g.D.Disk c.args.self.now c.args.pass.now (c.requires.running).is_pass (c.requires.running).held),
)

pub give_back-requires-clause-holding : goal.give_back-requires-clause-holding
give_back-requires-clause-holding g c =
    let held = c.in_ok-heap.ensures.holding []
    (holds_none g.D.Disk c.args.self.now c.args.pass.now (c.requires.running).is_pass (c.requires.running).held) in
    ([], c.in-Err.ensures.still.holding (c.in_ok-heap.heap ∷ []) held)

pub returns-in-Err-clause-running : goal.returns-in-Err-clause-running
returns-in-Err-clause-running g c =
    let run = c.requires.running in
    let held = c.in_ok-heap.ensures.holding []
    (holds_none g.D.Disk c.args.self.now c.args.pass.now run.is_pass run.held) in
    let h = c.hold_page.ensures in
    let n = c.hold_list.ensures.on in
    runs_back g.D.Disk c.args.self.now c.hold_list.new.self c.give_back.new.self c.args.pass.now
    c.hold_list.new.pass c.give_back.new.pass c.args.work (c.in_ok-heap.heap ∷ []) run
    (carries_on g.D.Disk c.args.self.now c.hold_page.new.self c.hold_list.new.self c.args.pass.now
    c.hold_page.new.pass c.hold_list.new.pass (h.keeps).xid h.carries n.carries)
    (keeps_on c.args.pass.now c.hold_page.new.pass c.hold_list.new.pass h.keeps n.keeps)
    c.give_back.ensures (c.in-Err.ensures.still.holding (c.in_ok-heap.heap ∷ []) held)

pub returns-in-Err-clause-keeps : goal.returns-in-Err-clause-keeps
returns-in-Err-clause-keeps g c =
    keeps_on c.args.pass.now c.hold_list.new.pass c.give_back.new.pass
    (keeps_on c.args.pass.now c.hold_page.new.pass c.hold_list.new.pass c.hold_page.ensures.keeps
    c.hold_list.ensures.on.keeps) c.give_back.ensures.keeps

pub returns-in-Err-clause-fault : goal.returns-in-Err-clause-fault
returns-in-Err-clause-fault g c =
    let a = c.args.self.now in
    let b = c.hold_page.new.self in
    let m = c.hold_list.new.self in
    let r : Result ListEnd DbError = Err c.in-Err.error in
    let q : Result (Unit {0}) DbError = Err c.in-Err.error in
    told_given g.D.Disk a m c.give_back.new.self c.hold_list.new.pass c.give_back.new.pass (c.in_ok-heap.heap ∷ []) q
    (told_in_turn g.D.Disk a b m q (time_of g.D.Disk c.hold_page.ensures.goes) c.in_ok-heap.ensures.fault
    (told_again g.D.Disk b m c.in-Err.error r q refl refl c.in-Err.ensures.fault))
    c.give_back.ensures

pub returns-in-Err-clause-refused : goal.returns-in-Err-clause-refused
returns-in-Err-clause-refused g c =
    goes_still g.D.Disk (goes_still g.D.Disk c.hold_page.ensures.goes c.hold_list.ensures.on.goes)
    c.give_back.ensures.goes

pub returns-in-Err-clause-cause : goal.returns-in-Err-clause-cause
returns-in-Err-clause-cause g c =
    link_list g.D.Disk c.args.self.now c.args.work.xid c.args.name c.hold_page.new.self c.in-Err.error
    c.hold_page.ensures.goes (c.in_ok-heap.ensures.fault).down c.in-Err.ensures.cause

pub returns-in-Err-clause-lawful : goal.returns-in-Err-clause-lawful
returns-in-Err-clause-lawful g c =
    list_later g.D.Disk c.args.self.now c.hold_page.new.self c.hold_page.new.pass c.in-Err.error
    c.hold_page.ensures.goes c.in_ok-heap.ensures.fault c.hold_page.ensures.pass c.in-Err.ensures.cause

-- ── the step is made and logged ──

pub log_link-requires : goal.log_link-requires
log_link-requires g c =
    let run = c.requires.running in
    let n = c.requires.put in
    let x = c.args.work.xid in
    let h = c.hold_page.ensures in
    let l = c.hold_list.ensures.on in
    let held = c.in-Ok.ensures.holding (c.in_ok-heap.heap ∷ []) (c.in_ok-heap.ensures.holding []
    (holds_none g.D.Disk c.args.self.now c.args.pass.now run.is_pass run.held)) in
    let made = c.link_step-made in
    let first : c.hold_page.new.pass.xid ≡ Some x = (h.keeps).xid ∙ run.xid in
    let serial : c.args.name.serial < 2 ^ 64 = omega arith in
    record {
      is_pass = l.is_pass;
      holding = held;
      calm = lacks_calm c.args.name c.in_ok-heap.heap.content made.result made.ensures.bad;
      may = λ step is. link_may_log g.D.Disk c.hold_list.new.self c.hold_list.new.pass c.in_ok-heap.heap c.in-Ok.end x
          c.args.name n.0 n.1 c.args.last c.args.pages n.2 step ((l.keeps).xid ∙ first) held c.in-Ok.ensures.is_end
          n.3 n.4 c.in_ok-heap.ensures.number
          (of_given (λ (s : Step). IsLinkStep x c.args.name c.in_ok-heap.heap.content
          c.in-Ok.end c.args.last c.args.pages
          s) made.result step is made.ensures.step) l.is_pass
          ((l.carries).rows x _ n.0 n.1 c.args.last n.2 first
          ((h.carries).rows x _ n.0 n.1 c.args.last n.2 run.xid n.5))
          serial;
    }

pub returns-clause-running : goal.returns-clause-running
returns-clause-running g c =
    let h = c.hold_page.ensures in
    let n = c.hold_list.ensures.on in
    let l = c.log_link.ensures in
    let made = c.link_step-made in
    logged_running g.D.Disk c.args.self.now c.hold_list.new.self c.log_link.new.self c.args.pass.now
    c.hold_list.new.pass c.log_link.new.pass (end_sheets c.in-Ok.end.meta c.in-Ok.end.last ++ c.in_ok-heap.heap ∷ [])
    made.result (goes_still g.D.Disk h.goes n.goes) c.args.work c.log_link.result c.requires.running
    n.is_pass (carries_on g.D.Disk c.args.self.now c.hold_page.new.self c.hold_list.new.self c.args.pass.now
    c.hold_page.new.pass c.hold_list.new.pass (h.keeps).xid h.carries n.carries)
    (keeps_on c.args.pass.now c.hold_page.new.pass c.hold_list.new.pass h.keeps n.keeps) l.pass l.none_held l.keeps
    (λ step is. subst (λ (s : Step). ChangesDocument s.kind)
    (sym (of_given (λ (s : Step). IsLinkStep c.args.work.xid c.args.name c.in_ok-heap.heap.content c.in-Ok.end
    c.args.last c.args.pages s) made.result step is made.ensures.step).step_is) tt) l.logged l.carries

pub returns-clause-goes : goal.returns-clause-goes
returns-clause-goes g c =
    let m = c.hold_list.new.self in
    let made = c.link_step-made in
    logged_goes g.D.Disk c.args.self.now m c.log_link.new.self c.args.pass.now c.hold_list.new.pass c.log_link.new.pass
    (end_sheets c.in-Ok.end.meta c.in-Ok.end.last ++ c.in_ok-heap.heap ∷ []) made.result
    (goes_still g.D.Disk c.hold_page.ensures.goes c.hold_list.ensures.on.goes)
    (IsLinkOf c.args.work.xid (doc_of c.args.name)) c.log_link.result
    (λ step is. link_record (after_owed m.frames.journal.owes m.frames.journal.state) c.args.work.xid c.args.name
    c.in_ok-heap.heap.content c.in-Ok.end c.args.last c.args.pages step
    (of_given (λ (s : Step). IsLinkStep c.args.work.xid c.args.name c.in_ok-heap.heap.content c.in-Ok.end
    c.args.last c.args.pages s) made.result step is made.ensures.step)) c.log_link.ensures.logged

pub returns-clause-indexed : goal.returns-clause-indexed
returns-clause-indexed g c = λ v packed w many pack none had.
    let run = c.requires.running in
    let h = c.hold_page.ensures in
    let l = c.hold_list.ensures.on in
    let x = c.args.work.xid in
    let made = c.link_step-made in
    let first : c.hold_page.new.pass.xid ≡ Some x = (h.keeps).xid ∙ run.xid in
    linked_all _ _ c.log_link.result
    (λ logged.
    links_then g.D.Disk c.hold_list.new.self c.log_link.new.self c.hold_list.new.pass c.log_link.new.pass
    (end_sheets c.in-Ok.end.meta c.in-Ok.end.last ++ c.in_ok-heap.heap ∷ []) logged.step logged.logs l.is_pass
    c.log_link.ensures.pass x c.args.name v packed c.args.last w ((l.keeps).xid ∙ first) c.requires.place none
    (inr (ap (λ (s : Step). s.kind) (of_given (λ (s : Step). IsLinkStep x c.args.name c.in_ok-heap.heap.content
    c.in-Ok.end c.args.last c.args.pages s) made.result logged.step logged.made_is made.ensures.step).step_is))
    ((l.carries).rows x _ v packed c.args.last w.deleted first
    ((h.carries).rows x _ v packed c.args.last w.deleted run.xid had)))
    c.log_link.ensures.logged

pub returns-clause-keeps : goal.returns-clause-keeps
returns-clause-keeps g c =
    keeps_on c.args.pass.now c.hold_list.new.pass c.log_link.new.pass
    (keeps_on c.args.pass.now c.hold_page.new.pass c.hold_list.new.pass c.hold_page.ensures.keeps
    c.hold_list.ensures.on.keeps) c.log_link.ensures.keeps

pub returns-clause-fault : goal.returns-clause-fault
returns-clause-fault g c =
    told_in_turn g.D.Disk c.args.self.now c.hold_list.new.self c.log_link.new.self c.log_link.result
    (time_of g.D.Disk (goes_still g.D.Disk c.hold_page.ensures.goes c.hold_list.ensures.on.goes))
    (none_in_turn g.D.Disk c.in_ok-heap.ensures.fault c.in-Ok.ensures.fault) c.log_link.ensures.fault

pub returns-clause-refused : goal.returns-clause-refused
returns-clause-refused g c =
    logged_not g.D.Disk c.args.self.now c.hold_list.new.self c.log_link.new.self c.args.pass.now c.hold_list.new.pass
    c.log_link.new.pass (end_sheets c.in-Ok.end.meta c.in-Ok.end.last ++ c.in_ok-heap.heap ∷ [])
    c.link_step-made.result (goes_still g.D.Disk c.hold_page.ensures.goes c.hold_list.ensures.on.goes)
    c.log_link.result c.log_link.ensures.refused

pub returns-clause-cause : goal.returns-clause-cause
returns-clause-cause g c =
    let m = c.hold_list.new.self in
    let made = c.link_step-made in
    if_err c.log_link.result
    (not_linked g.D.Disk c.args.self.now m (goes_still g.D.Disk c.hold_page.ensures.goes c.hold_list.ensures.on.goes)
    (none_in_turn g.D.Disk c.in_ok-heap.ensures.fault c.in-Ok.ensures.fault).down c.args.work.xid c.args.name
    made.result c.in_ok-heap.heap.content c.in_ok-heap.ensures.lies made.ensures.bad
    (λ step is. link_record (after_owed m.frames.journal.owes m.frames.journal.state) c.args.work.xid c.args.name
    c.in_ok-heap.heap.content c.in-Ok.end c.args.last c.args.pages step
    (of_given (λ (s : Step). IsLinkStep c.args.work.xid c.args.name c.in_ok-heap.heap.content c.in-Ok.end
    c.args.last c.args.pages s) made.result step is made.ensures.step))) c.log_link.ensures.cause

pub returns-clause-lawful : goal.returns-clause-lawful
returns-clause-lawful g c =
    let n = c.requires.put in
    let run = c.requires.running in
    if_err c.log_link.result
    (lawful_not_put g.D.Disk c.args.self.now c.args.name
    (shows_rowed g.D.Disk c.args.self.now c.args.pass.now c.args.work.xid c.args.name run.is_pass run.xid
    c.requires.place n.0 n.1 c.args.last n.2 n.5) c.hold_list.new.self c.link_step-made.result
    c.in_ok-heap.heap.content c.in_ok-heap.ensures.lies c.link_step-made.ensures.bad) c.log_link.ensures.cause

-- A part of a document's vector is put.
use Rattle.std.proofs.Common.{◌<◌, ◌^◌, [], ◌∷◌, sym, subst, ◌∙◌, arith}
use Rattle.std.specs.Prelude.{Result, IfErr}
use Rattle.std.proofs.lemmas.Result.{err_from_is_err_and}
use Rattle.core_state.specs.Allowed.{Step}
use Rattle.buffer_frames.specs.Journals.{after_owed}
use Rattle.engine.specs.Answers.{MeetsNoBadPage}
use Rattle.engine.specs.Work.{IsPartOf}
use Rattle.engine.specs.Inner.Changing.{ChangesDocument, CannotPutNew, IsPartStep, doc_of}
use Rattle.engine.specs.declared.error.DbError.{DbError}
use Rattle.engine.proofs.Carrying.{keeps_on}
use Rattle.engine.proofs.LinkAnswers.{of_given, linked_all, logged_running, logged_goes, logged_not}
use Rattle.engine.proofs.NewPuts.{lacks_calm, not_held, not_put, shows_placed, lawful_not_held, lawful_not_put}
use Rattle.engine.proofs.Parts.{part_may_log}
use Rattle.engine.proofs.PartPuts.{part_record, part_then}
use Rattle.engine.proofs.Paths.{time_of, told_in_turn}
use Rattle.engine.proofs.ReadSteps.{if_err}
use Rattle.engine.proofs.Running.{running_still}
use Rattle.engine.proofs.db.Db.put_part.Goals as goal

-- ── its pages aren't held ──

pub returns-in_err-heap-clause-running : goal.returns-in_err-heap-clause-running
returns-in_err-heap-clause-running g c =
    let h = c.hold_with_new.ensures in
    running_still g.D.Disk c.args.self.now c.hold_with_new.new.self c.args.pass.now c.hold_with_new.new.pass c.args.work
    c.requires.running h.pass c.in_err-heap.ensures.still h.keeps h.carries

pub returns-in_err-heap-clause-cause : goal.returns-in_err-heap-clause-cause
returns-in_err-heap-clause-cause g c =
    let p = err_from_is_err_and c.from_residual.result c.from_residual.ensures.1 in
    let Why = CannotPutNew g.D.Disk (IsPartOf c.args.work.xid (doc_of c.args.name)) c.args.self.now c.args.name in
    subst (λ (r : Result (Unit {0}) DbError). IfErr r Why) (sym p.1)
    (subst Why (sym p.2)
    (not_held g.D.Disk (IsPartOf c.args.work.xid (doc_of c.args.name)) c.args.self.now c.args.name _
    c.in_err-heap.ensures.cause))

pub returns-in_err-heap-clause-lawful : goal.returns-in_err-heap-clause-lawful
returns-in_err-heap-clause-lawful g c =
    let p = err_from_is_err_and c.from_residual.result c.from_residual.ensures.1 in
    let n = c.requires.next in
    let run = c.requires.running in
    subst (λ (r : Result (Unit {0}) DbError). IfErr r (λ e. MeetsNoBadPage g.D.Disk c.args.self.now e)) (sym p.1)
    (subst (MeetsNoBadPage g.D.Disk c.args.self.now) (sym p.2)
    (lawful_not_held g.D.Disk c.args.self.now c.args.name
    (shows_placed g.D.Disk c.args.self.now c.args.pass.now c.args.work.xid c.args.name run.is_pass run.xid
    c.requires.place n.0 n.1 n.2 n.4) _ c.in_err-heap.ensures.cause))

-- ── the step is made and logged ──

pub part_step-made-requires-clause-page : goal.part_step-made-requires-clause-page
part_step-made-requires-clause-page g c = c.in_ok-heap.ensures.both.number

pub log_two-requires : goal.log_two-requires
log_two-requires g c =
    let run = c.requires.running in
    let next = c.requires.next in
    let x = c.args.work.xid in
    let h = c.hold_with_new.ensures in
    let b = c.in_ok-heap.ensures.both in
    let made = c.part_step-made.ensures in
    let serial : c.args.name.serial < 2 ^ 64 = omega arith in
    record {
      is_pass = h.pass;
      holding = b.holding;
      calm = lacks_calm c.args.name c.in_ok-heap.heap.content c.part_step-made.result made.bad;
      may = λ step is. part_may_log g.D.Disk c.hold_with_new.new.self c.hold_with_new.new.pass c.in_ok-heap.heap
          c.in_ok-heap.new x c.args.name next.0 next.1 c.args.part.now next.2 step ((h.keeps).xid ∙ run.xid) b.holding
          next.3 b.number
          (of_given
          (λ (s : Step). IsPartStep x c.args.name c.in_ok-heap.heap.content c.args.part.now c.in_ok-heap.new.page s)
          c.part_step-made.result step is made.step)
          h.pass ((h.carries).placed x _ next.0 next.1 next.2 run.xid next.4) b.is_new serial;
    }

pub returns-clause-running : goal.returns-clause-running
returns-clause-running g c =
    let h = c.hold_with_new.ensures in
    let l = c.log_two.ensures in
    let made = c.part_step-made in
    logged_running g.D.Disk c.args.self.now c.hold_with_new.new.self c.log_two.new.self c.args.pass.now
    c.hold_with_new.new.pass c.log_two.new.pass (c.in_ok-heap.new ∷ c.in_ok-heap.heap ∷ []) made.result h.goes
    c.args.work c.log_two.result c.requires.running h.pass h.carries h.keeps l.pass l.none_held l.keeps
    (λ step is. subst (λ (s : Step). ChangesDocument s.kind)
    (sym (of_given (λ (s : Step). IsPartStep c.args.work.xid c.args.name c.in_ok-heap.heap.content c.args.part.now
    c.in_ok-heap.new.page s) made.result step is made.ensures.step).step_is) tt)
    l.logged l.carries

pub returns-clause-goes : goal.returns-clause-goes
returns-clause-goes g c =
    let m = c.hold_with_new.new.self in
    let made = c.part_step-made in
    logged_goes g.D.Disk c.args.self.now m c.log_two.new.self c.args.pass.now c.hold_with_new.new.pass
    c.log_two.new.pass (c.in_ok-heap.new ∷ c.in_ok-heap.heap ∷ []) made.result c.hold_with_new.ensures.goes
    (IsPartOf c.args.work.xid (doc_of c.args.name)) c.log_two.result
    (λ step is. part_record (after_owed m.frames.journal.owes m.frames.journal.state) c.args.work.xid c.args.name
    c.in_ok-heap.heap.content c.args.part.now c.in_ok-heap.new.page step
    (of_given (λ (s : Step). IsPartStep c.args.work.xid c.args.name c.in_ok-heap.heap.content c.args.part.now
    c.in_ok-heap.new.page s) made.result step is made.ensures.step))
    c.log_two.ensures.logged

pub returns-clause-put : goal.returns-clause-put
returns-clause-put g c = λ bytes behind names next had.
    let run = c.requires.running in
    let h = c.hold_with_new.ensures in
    let b = c.in_ok-heap.ensures.both in
    let x = c.args.work.xid in
    let made = c.part_step-made in
    linked_all _ _ c.log_two.result
    (λ l. part_then g.D.Disk c.hold_with_new.new.self c.log_two.new.self c.hold_with_new.new.pass c.log_two.new.pass
    c.in_ok-heap.heap c.in_ok-heap.new x c.args.name c.args.part.now l.step b.number
    (of_given (λ (s : Step). IsPartStep x c.args.name c.in_ok-heap.heap.content c.args.part.now c.in_ok-heap.new.page s)
    made.result l.step l.made_is made.ensures.step) l.logs h.pass c.log_two.ensures.pass
    bytes behind names ((h.keeps).xid ∙ run.xid) next b.is_new
    ((h.carries).placed x _ bytes behind names run.xid had))
    c.log_two.ensures.logged

pub returns-clause-keeps : goal.returns-clause-keeps
returns-clause-keeps g c =
    keeps_on c.args.pass.now c.hold_with_new.new.pass c.log_two.new.pass c.hold_with_new.ensures.keeps
    c.log_two.ensures.keeps

pub returns-clause-fault : goal.returns-clause-fault
returns-clause-fault g c =
    told_in_turn g.D.Disk c.args.self.now c.hold_with_new.new.self c.log_two.new.self c.log_two.result
    (time_of g.D.Disk c.hold_with_new.ensures.goes) c.in_ok-heap.ensures.fault c.log_two.ensures.fault

pub returns-clause-refused : goal.returns-clause-refused
returns-clause-refused g c =
    logged_not g.D.Disk c.args.self.now c.hold_with_new.new.self c.log_two.new.self c.args.pass.now
    c.hold_with_new.new.pass c.log_two.new.pass (c.in_ok-heap.new ∷ c.in_ok-heap.heap ∷ []) c.part_step-made.result
    c.hold_with_new.ensures.goes c.log_two.result c.log_two.ensures.refused

pub returns-clause-cause : goal.returns-clause-cause
returns-clause-cause g c =
    let m = c.hold_with_new.new.self in
    let made = c.part_step-made in
    if_err c.log_two.result
    (not_put g.D.Disk (IsPartOf c.args.work.xid (doc_of c.args.name)) c.args.self.now c.args.name m
    c.hold_with_new.ensures.goes (c.in_ok-heap.ensures.fault).down made.result c.in_ok-heap.heap.content
    c.in_ok-heap.ensures.both.lies made.ensures.bad
    (λ step is. part_record (after_owed m.frames.journal.owes m.frames.journal.state) c.args.work.xid c.args.name
    c.in_ok-heap.heap.content c.args.part.now c.in_ok-heap.new.page step
    (of_given (λ (s : Step). IsPartStep c.args.work.xid c.args.name c.in_ok-heap.heap.content c.args.part.now
    c.in_ok-heap.new.page s) made.result step is made.ensures.step)))
    c.log_two.ensures.cause

pub returns-clause-lawful : goal.returns-clause-lawful
returns-clause-lawful g c =
    let n = c.requires.next in
    let run = c.requires.running in
    if_err c.log_two.result
    (lawful_not_put g.D.Disk c.args.self.now c.args.name
    (shows_placed g.D.Disk c.args.self.now c.args.pass.now c.args.work.xid c.args.name run.is_pass run.xid
    c.requires.place n.0 n.1 n.2 n.4) c.hold_with_new.new.self c.part_step-made.result c.in_ok-heap.heap.content
    c.in_ok-heap.ensures.both.lies c.part_step-made.ensures.bad)
    c.log_two.ensures.cause

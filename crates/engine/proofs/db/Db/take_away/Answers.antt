-- A document is deleted.
use Rattle.std.proofs.Common.{sym, ap, subst, ◌∙◌}
use Rattle.std.specs.Prelude.{Result, Err, IfErr}
use Rattle.std.proofs.lemmas.Result.{err_from_is_err_and}
use Rattle.engine.specs.Work.{Work, deleting}
use Rattle.engine.specs.Answers.{HasDeleted, IsLawfulRefusal}
use Rattle.engine.specs.declared.error.DbError.{DbError}
use Rattle.engine.specs.declared.transaction.Transaction.{Transaction}
use Rattle.engine.proofs.LawfulWork.{begin_tells, end_tells}
use Rattle.engine.proofs.Storing.{has_begun, not_begun, answers, deleted}
use Rattle.engine.proofs.Storing.{path, removed_some, stopped_none, up_after, snapshot_on}
use Rattle.engine.proofs.db.Db.take_away.Goals as goal

pub returns-in_err-work-clause-answered : goal.returns-in_err-work-clause-answered
returns-in_err-work-clause-answered g c =
    let p = err_from_is_err_and c.from_residual.result c.from_residual.ensures.1 in
    let w : Work = deleting c.args.name in
    let e : DbError = (c.in_err-work.field-0).0 in
    subst
    (λ (r : Result (Unit {0}) DbError). HasDeleted g.D.Disk c.args.self.now c.begin.new.self c.begin.new.pass w r)
    (sym (p.1 ∙ ap Err p.2))
    (deleted g.D.Disk c.args.name c.args.self.now c.begin.new.self c.begin.new.pass w (Err e)
    (not_begun g.D.Disk Transaction c.args.self.now c.begin.new.self w e c.in_err-work.ensures.refused.1
    c.in_err-work.ensures.cause c.in_err-work.ensures.fault))

pub returns-in_err-work-clause-lawful : goal.returns-in_err-work-clause-lawful
returns-in_err-work-clause-lawful g c =
    let p = err_from_is_err_and c.from_residual.result c.from_residual.ensures.1 in
    let w : Work = deleting c.args.name in
    subst (λ (r : Result (Unit {0}) DbError). IfErr r (λ e. IsLawfulRefusal g.D.Disk c.args.self.now w e))
    (sym (p.1 ∙ ap Err p.2))
    (begin_tells g.D.Disk c.args.self.now c.begin.new.self w (c.in_err-work.field-0).0 c.in_err-work.ensures.cause)

pub finish-requires-clause-up : goal.finish-requires-clause-up
finish-requires-clause-up g c =
    let e = c.in_ok-work.ensures in
    up_after g.D.Disk c.begin.new.self c.remove-removed.new.self c.remove-removed.result (e.fault.down ∙ e.may.0)
    c.remove-removed.ensures.fault

pub finish-requires-clause-changed : goal.finish-requires-clause-changed
finish-requires-clause-changed g c =
    removed_some g.D.Disk c.begin.new.self c.remove-removed.new.self c.remove-removed.new.pass c.in_ok-work.work
    c.args.name c.remove-removed.result c.remove-removed.ensures.done

pub returns-clause-answered : goal.returns-clause-answered
returns-clause-answered g c =
    let w : Work = deleting c.args.name in
    let e = c.in_ok-work.ensures in
    let b = has_begun g.D.Disk c.args.self.now c.begin.new.self c.in_ok-work.work w e.snapshot e.begun e.may e.fault in
    let p = c.remove-removed.ensures in
    deleted g.D.Disk c.args.name c.args.self.now c.finish.new.self c.finish.new.pass w c.finish.result
    (answers g.D.Disk (Unit {0}) (λ n. c.args.name) c.args.self.now c.begin.new.self c.remove-removed.new.self
    c.finish.new.self c.remove-removed.new.pass c.finish.new.pass c.in_ok-work.work w b (e.fault.down ∙ e.may.0)
    p.running c.remove-removed.result c.finish.result p.done
    (stopped_none g.D.Disk c.begin.new.self c.remove-removed.new.self c.in_ok-work.work c.args.name
    c.remove-removed.result p.refused) p.cause p.fault c.finish.ensures.ended).0

pub returns-clause-path : goal.returns-clause-path
returns-clause-path g c =
    let w : Work = deleting c.args.name in
    let e = c.in_ok-work.ensures in
    let b = has_begun g.D.Disk c.args.self.now c.begin.new.self c.in_ok-work.work w e.snapshot e.begun e.may e.fault in
    let p = c.remove-removed.ensures in
    path g.D.Disk (Unit {0}) (λ n. c.args.name) c.args.self.now c.begin.new.self c.remove-removed.new.self
    c.finish.new.self c.remove-removed.new.pass c.finish.new.pass c.in_ok-work.work w b (e.fault.down ∙ e.may.0)
    p.running c.remove-removed.result c.finish.result p.done
    (stopped_none g.D.Disk c.begin.new.self c.remove-removed.new.self c.in_ok-work.work c.args.name
    c.remove-removed.result p.refused) c.finish.ensures.ended

pub returns-clause-fault : goal.returns-clause-fault
returns-clause-fault g c =
    let w : Work = deleting c.args.name in
    let e = c.in_ok-work.ensures in
    let b = has_begun g.D.Disk c.args.self.now c.begin.new.self c.in_ok-work.work w e.snapshot e.begun e.may e.fault in
    let p = c.remove-removed.ensures in
    (answers g.D.Disk (Unit {0}) (λ n. c.args.name) c.args.self.now c.begin.new.self c.remove-removed.new.self
    c.finish.new.self c.remove-removed.new.pass c.finish.new.pass c.in_ok-work.work w b (e.fault.down ∙ e.may.0)
    p.running c.remove-removed.result c.finish.result p.done
    (stopped_none g.D.Disk c.begin.new.self c.remove-removed.new.self c.in_ok-work.work c.args.name
    c.remove-removed.result p.refused) p.cause p.fault c.finish.ensures.ended).1

pub returns-clause-lawful : goal.returns-clause-lawful
returns-clause-lawful g c =
    let w : Work = deleting c.args.name in
    let e = c.in_ok-work.ensures in
    let b = has_begun g.D.Disk c.args.self.now c.begin.new.self c.in_ok-work.work w e.snapshot e.begun e.may e.fault in
    end_tells g.D.Disk c.args.self.now c.begin.new.self c.in_ok-work.work w b c.remove-removed.new.self
    c.finish.new.self c.finish.new.pass c.remove-removed.result c.finish.result c.remove-removed.ensures.lawful
    c.finish.ensures.ended

pub returns-clause-snapshot : goal.returns-clause-snapshot
returns-clause-snapshot g c =
    snapshot_on c.args.self.now c.begin.new.self c.finish.new.self c.args.pass.now c.begin.new.pass
    c.remove-removed.new.pass
    c.finish.new.pass c.begin.ensures.takes c.remove-removed.ensures.keeps c.finish.ensures.keeps
    c.finish.ensures.session.is_pass

-- A document is stored.
use Rattle.std.proofs.Common.{sym, ap, subst, ◌∙◌}
use Rattle.std.specs.Prelude.{Result, Err, IfErr}
use Rattle.std.proofs.lemmas.Result.{err_from_is_err_and}
use Rattle.engine.specs.Finding.{Name}
use Rattle.engine.specs.Work.{Work, storing}
use Rattle.engine.specs.Answers.{HasStored, IsLawfulRefusal}
use Rattle.engine.specs.declared.error.DbError.{DbError}
use Rattle.engine.specs.declared.transaction.Transaction.{Transaction}
use Rattle.engine.proofs.LawfulWork.{begin_tells, end_tells}
use Rattle.engine.proofs.Storing.{has_begun, not_begun, answers, stored, path, changed_some, up_after, snapshot_on}
use Rattle.engine.proofs.db.Db.store.Goals as goal

pub returns-in_err-work-clause-answered : goal.returns-in_err-work-clause-answered
returns-in_err-work-clause-answered g c =
    let p = err_from_is_err_and c.from_residual.result c.from_residual.ensures.1 in
    let w : Work = storing c.args.deletes c.args.vector.now in
    let e : DbError = (c.in_err-work.field-0).0 in
    subst (λ (r : Result Name DbError). HasStored g.D.Disk c.args.self.now c.begin.new.self c.begin.new.pass w r)
    (sym (p.1 ∙ ap Err p.2))
    (stored g.D.Disk c.args.self.now c.begin.new.self c.begin.new.pass w (Err e)
    (not_begun g.D.Disk Transaction c.args.self.now c.begin.new.self w e c.in_err-work.ensures.refused.1
    c.in_err-work.ensures.cause c.in_err-work.ensures.fault))

pub returns-in_err-work-clause-lawful : goal.returns-in_err-work-clause-lawful
returns-in_err-work-clause-lawful g c =
    let p = err_from_is_err_and c.from_residual.result c.from_residual.ensures.1 in
    let w : Work = storing c.args.deletes c.args.vector.now in
    subst (λ (r : Result Name DbError). IfErr r (λ e. IsLawfulRefusal g.D.Disk c.args.self.now w e))
    (sym (p.1 ∙ ap Err p.2))
    (begin_tells g.D.Disk c.args.self.now c.begin.new.self w (c.in_err-work.field-0).0 c.in_err-work.ensures.cause)

pub finish-requires-clause-up : goal.finish-requires-clause-up
finish-requires-clause-up g c =
    let e = c.in_ok-work.ensures in
    up_after g.D.Disk c.begin.new.self c.place-placed.new.self c.place-placed.result (e.fault.down ∙ e.may.0)
    c.place-placed.ensures.fault

pub finish-requires-clause-changed : goal.finish-requires-clause-changed
finish-requires-clause-changed g c =
    changed_some g.D.Disk c.begin.new.self c.place-placed.new.self c.place-placed.new.pass c.in_ok-work.work
    (storing c.args.deletes c.args.vector.now) c.place-placed.result c.place-placed.ensures.done

pub returns-clause-answered : goal.returns-clause-answered
returns-clause-answered g c =
    let w : Work = storing c.args.deletes c.args.vector.now in
    let e = c.in_ok-work.ensures in
    let b = has_begun g.D.Disk c.args.self.now c.begin.new.self c.in_ok-work.work w e.snapshot e.begun e.may e.fault in
    let p = c.place-placed.ensures in
    stored g.D.Disk c.args.self.now c.finish.new.self c.finish.new.pass w c.finish.result
    (answers g.D.Disk Name (λ n. n) c.args.self.now c.begin.new.self c.place-placed.new.self c.finish.new.self
    c.place-placed.new.pass c.finish.new.pass c.in_ok-work.work w b (e.fault.down ∙ e.may.0) p.running
    c.place-placed.result c.finish.result p.done p.refused p.cause p.fault c.finish.ensures.ended).0

pub returns-clause-path : goal.returns-clause-path
returns-clause-path g c =
    let w : Work = storing c.args.deletes c.args.vector.now in
    let e = c.in_ok-work.ensures in
    let b = has_begun g.D.Disk c.args.self.now c.begin.new.self c.in_ok-work.work w e.snapshot e.begun e.may e.fault in
    let p = c.place-placed.ensures in
    path g.D.Disk Name (λ n. n) c.args.self.now c.begin.new.self c.place-placed.new.self c.finish.new.self
    c.place-placed.new.pass c.finish.new.pass c.in_ok-work.work w b (e.fault.down ∙ e.may.0) p.running
    c.place-placed.result c.finish.result p.done p.refused c.finish.ensures.ended

pub returns-clause-fault : goal.returns-clause-fault
returns-clause-fault g c =
    let w : Work = storing c.args.deletes c.args.vector.now in
    let e = c.in_ok-work.ensures in
    let b = has_begun g.D.Disk c.args.self.now c.begin.new.self c.in_ok-work.work w e.snapshot e.begun e.may e.fault in
    let p = c.place-placed.ensures in
    (answers g.D.Disk Name (λ n. n) c.args.self.now c.begin.new.self c.place-placed.new.self c.finish.new.self
    c.place-placed.new.pass c.finish.new.pass c.in_ok-work.work w b (e.fault.down ∙ e.may.0) p.running
    c.place-placed.result c.finish.result p.done p.refused p.cause p.fault c.finish.ensures.ended).1

pub returns-clause-lawful : goal.returns-clause-lawful
returns-clause-lawful g c =
    let w : Work = storing c.args.deletes c.args.vector.now in
    let e = c.in_ok-work.ensures in
    let b = has_begun g.D.Disk c.args.self.now c.begin.new.self c.in_ok-work.work w e.snapshot e.begun e.may e.fault in
    end_tells g.D.Disk c.args.self.now c.begin.new.self c.in_ok-work.work w b c.place-placed.new.self c.finish.new.self
    c.finish.new.pass c.place-placed.result c.finish.result c.place-placed.ensures.lawful c.finish.ensures.ended

pub returns-clause-snapshot : goal.returns-clause-snapshot
returns-clause-snapshot g c =
    snapshot_on c.args.self.now c.begin.new.self c.finish.new.self c.args.pass.now c.begin.new.pass
    c.place-placed.new.pass
    c.finish.new.pass c.begin.ensures.takes c.place-placed.ensures.keeps c.finish.ensures.keeps
    c.finish.ensures.session.is_pass

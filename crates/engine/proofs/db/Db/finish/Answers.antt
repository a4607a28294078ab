-- A transaction ends as its work was answered.
use Rattle.std.proofs.Common.{refl, sym, ap, subst, ◌∙◌}
use Rattle.std.specs.Prelude.{Result, Ok, Err}
use Rattle.std.proofs.lemmas.Result.{err_from_is_err_and}
use Rattle.engine.specs.Inner.Parts.{EndsAs}
use Rattle.engine.specs.declared.error.DbError.{DbError}
use Rattle.engine.proofs.Ending.{at_ok, told_either}
use Rattle.engine.proofs.db.Db.finish.Goals as goal

pub end-requires-clause-running : goal.end-requires-clause-running
end-requires-clause-running g c = c.requires.running

pub end-requires-clause-up : goal.end-requires-clause-up
end-requires-clause-up g c = at_ok c.args.done c.in-Ok.answer c.in-Ok.is c.requires.up

pub end-requires-clause-changed : goal.end-requires-clause-changed
end-requires-clause-changed g c = at_ok c.args.done c.in-Ok.answer c.in-Ok.is c.requires.changed

pub give_up-requires : goal.give_up-requires
give_up-requires g c = c.requires.running

pub returns-in_err-end-in-Ok-clause-session : goal.returns-in_err-end-in-Ok-clause-session
returns-in_err-end-in-Ok-clause-session g c = c.end.ensures.session

pub returns-in_err-end-in-Ok-clause-keeps : goal.returns-in_err-end-in-Ok-clause-keeps
returns-in_err-end-in-Ok-clause-keeps g c = c.end.ensures.keeps

pub returns-in_err-end-in-Ok-clause-ended : goal.returns-in_err-end-in-Ok-clause-ended
returns-in_err-end-in-Ok-clause-ended g c =
    let a = c.args.self.now in
    let b = c.end.new.self in
    let x = c.args.work.xid in
    let e : DbError = (c.in_err-end-in-Ok.field-0).0 in
    let p = err_from_is_err_and c.from_residual.result c.from_residual.ensures.1 in
    let done : Result g.row.T.Denot DbError = Ok c.in-Ok.answer in
    subst (λ (d : Result g.row.T.Denot DbError). EndsAs g.D.Disk a b c.end.new.pass x d c.from_residual.result)
    (sym c.in-Ok.is)
    (subst (λ (r : Result g.row.T.Denot DbError). EndsAs g.D.Disk a b c.end.new.pass x done r)
    (sym (p.1 ∙ ap Err p.2)) (
      c.in_err-end-in-Ok.ensures.refused,
      told_either g.D.Disk (Unit {0}) a b e c.in_err-end-in-Ok.ensures.fault,
    ))

pub returns-in_ok-end-in-Ok-clause-session : goal.returns-in_ok-end-in-Ok-clause-session
returns-in_ok-end-in-Ok-clause-session g c = c.end.ensures.session

pub returns-in_ok-end-in-Ok-clause-keeps : goal.returns-in_ok-end-in-Ok-clause-keeps
returns-in_ok-end-in-Ok-clause-keeps g c = c.end.ensures.keeps

pub returns-in_ok-end-in-Ok-clause-ended : goal.returns-in_ok-end-in-Ok-clause-ended
returns-in_ok-end-in-Ok-clause-ended g c =
    let e = c.in_ok-end-in-Ok.ensures in
    let given : Result g.row.T.Denot DbError = Ok c.in-Ok.answer in
    subst (λ (d : Result g.row.T.Denot DbError).
    EndsAs g.D.Disk c.args.self.now c.end.new.self c.end.new.pass c.args.work.xid d given) (sym c.in-Ok.is)
    (refl, e.ended, e.flushed.0, e.flushed.1, e.flushed.2, e.flushed.3, e.fault)

pub returns-in-Err-clause-session : goal.returns-in-Err-clause-session
returns-in-Err-clause-session g c = c.give_up.ensures.session

pub returns-in-Err-clause-keeps : goal.returns-in-Err-clause-keeps
returns-in-Err-clause-keeps g c = c.give_up.ensures.keeps

pub returns-in-Err-clause-ended : goal.returns-in-Err-clause-ended
returns-in-Err-clause-ended g c =
    let given : Result g.row.T.Denot DbError = Err c.give_up.result in
    subst (λ (d : Result g.row.T.Denot DbError).
    EndsAs g.D.Disk c.args.self.now c.give_up.new.self c.give_up.new.pass c.args.work.xid d given) (sym c.in-Err.is)
    (c.give_up.ensures.gone, c.give_up.ensures.fault)

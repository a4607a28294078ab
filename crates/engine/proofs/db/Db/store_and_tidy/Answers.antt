-- A document is stored, and the pending list cleaned up where it is long.
use Rattle.std.proofs.Common.{refl, sym, ap, subst, ◌∙◌, arith}
use Rattle.std.specs.Prelude.{Result, Err, IfErr}
use Rattle.std.proofs.lemmas.Result.{err_from_is_err_and}
use Rattle.buffer_frames.specs.Beginnings.{HasFlushed}
use Rattle.engine.specs.Answers.{HasStored, IsLawfulRefusal}
use Rattle.engine.specs.Cleaning.{StoresThenTidies}
use Rattle.engine.specs.Db.{DbValue}
use Rattle.engine.specs.Finding.{Name}
use Rattle.engine.specs.Going.{FaultIsTold}
use Rattle.engine.specs.Work.{Work, storing}
use Rattle.engine.specs.declared.error.DbError.{DbError}
use Rattle.engine.proofs.Cleanups.{up_rises, moved_by, goes_up}
use Rattle.engine.proofs.Growing.{goes_on_by}
use Rattle.engine.proofs.PinsRisen.{rises, rises_in_turn, others_by, own_stays, others_stay}
use Rattle.engine.proofs.Tidying.{goes_on_then, snapshot_then}
use Rattle.engine.proofs.db.Db.store_and_tidy.Goals as goal

pub tidy_list-requires : goal.tidy_list-requires
tidy_list-requires g c =
    let e = c.store-stored.ensures in
    let s = subst (HasStored g.D.Disk c.args.self.now c.store-stored.new.self c.store-stored.new.pass
    (storing c.args.deletes c.args.vector.now)) c.in_ok-name.was e.answered in
    record {
      session = own_stays g.D.Disk (e.path).1 c.args.pass.now c.store-stored.new.pass c.requires.session e.session;
      up = s.still_up;
    }

pub returns-in_err-name-clause-session : goal.returns-in_err-name-clause-session
returns-in_err-name-clause-session g c =
    let e = c.store-stored.ensures in
    own_stays g.D.Disk (e.path).1 c.args.pass.now c.store-stored.new.pass c.requires.session e.session

pub returns-in_err-name-clause-others : goal.returns-in_err-name-clause-others
returns-in_err-name-clause-others g c =
    others_stay g.D.Disk (c.store-stored.ensures.path).1 _ c.store-stored.ensures.session

pub returns-in_err-name-clause-goes_on : goal.returns-in_err-name-clause-goes_on
returns-in_err-name-clause-goes_on g c =
    goes_on_by g.D.Disk (c.store-stored.ensures.path).1
    (subst (λ (s : DbValue g.row.D.Denot). HasFlushed g.D.Disk s.frames.journal) c.self.view_is
    c.keeps_history.ensures.flushed)

pub returns-in_err-name-clause-answered : goal.returns-in_err-name-clause-answered
returns-in_err-name-clause-answered g c =
    let e = c.store-stored.ensures in
    let w : Work = storing c.args.deletes c.args.vector.now in
    let q = err_from_is_err_and c.from_residual.result c.from_residual.ensures.1 in
    let x : DbError = c.in_err-name.field-0.0 in
    let n : DbValue g.row.D.Denot = c.store-stored.new.self in
    subst (λ (r : Result Name DbError). StoresThenTidies g.D.Disk c.args.self.now n c.store-stored.new.pass w r)
    (sym (q.1 ∙ ap Err q.2))
    (record {
      mid = n;
      pass = c.store-stored.new.pass;
      stored = subst (HasStored g.D.Disk c.args.self.now n c.store-stored.new.pass w) c.in_err-name.was e.answered;
      told = subst (FaultIsTold g.D.Disk c.args.self.now n) c.in_err-name.was e.fault;
      goes_on = goes_on_by g.D.Disk (e.path).1
          (subst (λ (s : DbValue g.row.D.Denot). HasFlushed g.D.Disk s.frames.journal) c.self.view_is
          c.keeps_history.ensures.flushed);
      shown = omega arith;
      then = refl;
    })

pub returns-in_err-name-clause-lawful : goal.returns-in_err-name-clause-lawful
returns-in_err-name-clause-lawful g c =
    let w : Work = storing c.args.deletes c.args.vector.now in
    let q = err_from_is_err_and c.from_residual.result c.from_residual.ensures.1 in
    subst (λ (r : Result Name DbError). IfErr r (λ e. IsLawfulRefusal g.D.Disk c.args.self.now w e))
    (sym (q.1 ∙ ap Err q.2))
    (subst (λ (r : Result Name DbError). IfErr r (λ e. IsLawfulRefusal g.D.Disk c.args.self.now w e)) c.in_err-name.was
    c.store-stored.ensures.lawful)

pub returns-clause-others : goal.returns-clause-others
returns-clause-others g c =
    let e = c.store-stored.ensures in
    let t = c.tidy_list.ensures in
    let own = own_stays g.D.Disk (e.path).1 c.args.pass.now c.store-stored.new.pass c.requires.session e.session in
    λ p session.
    others_by (rises_in_turn (rises g.D.Disk (e.path).1)
    (up_rises g.D.Disk _ _ t.path.0 (t.session.free ∙ sym own.free) t.path.1)) c.tidy_list.new.pass t.session.rests p
    session

pub returns-clause-goes_on : goal.returns-clause-goes_on
returns-clause-goes_on g c =
    let e = c.store-stored.ensures in
    let t = c.tidy_list.ensures in
    goes_on_then g.D.Disk _ _ _ (e.path).1 t.path.0 t.path.1
    (subst (λ (s : DbValue g.row.D.Denot). HasFlushed g.D.Disk s.frames.journal) c.self-2.view_is
    c.keeps_history-2.ensures.flushed)

pub returns-clause-snapshot : goal.returns-clause-snapshot
returns-clause-snapshot g c =
    snapshot_then _ _ _ _ _ _ c.store-stored.ensures.snapshot c.tidy_list.ensures.keeps
    c.tidy_list.ensures.session.rests.is_pass

pub returns-clause-answered : goal.returns-clause-answered
returns-clause-answered g c =
    let e = c.store-stored.ensures in
    let t = c.tidy_list.ensures in
    let w : Work = storing c.args.deletes c.args.vector.now in
    let m : DbValue g.row.D.Denot = c.store-stored.new.self in
    record {
      mid = m;
      pass = c.store-stored.new.pass;
      stored = subst (HasStored g.D.Disk c.args.self.now m c.store-stored.new.pass w) c.in_ok-name.was e.answered;
      told = subst (FaultIsTold g.D.Disk c.args.self.now m) c.in_ok-name.was e.fault;
      goes_on = goes_on_by g.D.Disk (e.path).1
          (subst (λ (s : DbValue g.row.D.Denot). HasFlushed g.D.Disk s.frames.journal) c.self.view_is
          c.keeps_history.ensures.flushed);
      shown = t.keeps.shown;
      then = record {
        moves = moved_by g.D.Disk c.placing_keeps.ensures.history m c.tidy_list.new.self t.path.0 t.path.1;
        goes_on = goes_up g.D.Disk m c.tidy_list.new.self t.path.0 t.path.1
            (subst (λ (s : DbValue g.row.D.Denot). HasFlushed g.D.Disk s.frames.journal) c.self-2.view_is
            c.keeps_history-2.ensures.flushed);
        answer = c.tidy_list.result;
        told = t.fault;
        by_itself = t.by_itself;
      };
    }

-- What is dead is taken out.
use Rattle.std.proofs.Common.{sym, subst, ◌∙◌}
use Rattle.buffer_frames.specs.Beginnings.{HasFlushed}
use Rattle.engine.specs.Db.{DbValue}
use Rattle.engine.specs.Vacuuming.{IsVacuum}
use Rattle.engine.proofs.Cleanups.{up_rises, grows_not, logged_kinds, goes_up}
use Rattle.engine.proofs.PinsRisen.{others_by}
use Rattle.engine.proofs.db.Db.vacuum.Goals as goal

pub returns-clause-others : goal.returns-clause-others
returns-clause-others g c =
    let e = c.maintained-vacuumed.ensures in
    λ p session.
    others_by (up_rises g.D.Disk _ _ e.path.0 (e.session.free ∙ sym c.requires.session.free) e.path.2) _
    e.session.rests p session

pub returns-clause-works : goal.returns-clause-works
returns-clause-works g c =
    let e = c.maintained-vacuumed.ensures in
    record {
      nothing = grows_not g.D.Disk c.placing_keeps.ensures.history _ _ e.path.0 e.path.2;
      logged = logged_kinds g.D.Disk IsVacuum _ _ e.path.0 e.path.2 e.path.1;
      pinned = λ tells up R stands legal place p is. (stands.pins tells up legal).each place p (e.pinned place p is);
    }

pub returns-clause-vacuumed : goal.returns-clause-vacuumed
returns-clause-vacuumed g c = c.maintained-vacuumed.ensures.answered

pub returns-clause-goes_on : goal.returns-clause-goes_on
returns-clause-goes_on g c =
    let e = c.maintained-vacuumed.ensures in
    goes_up g.D.Disk _ _ e.path.0 e.path.2
    (subst (λ (s : DbValue g.row.D.Denot). HasFlushed g.D.Disk s.frames.journal) c.self.view_is
    c.keeps_history.ensures.flushed)

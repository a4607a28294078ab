-- The pending list is cleaned up.
use Rattle.std.proofs.Common.{sym, subst, ◌∙◌}
use Rattle.buffer_frames.specs.Beginnings.{HasFlushed}
use Rattle.engine.specs.Db.{DbValue}
use Rattle.engine.proofs.Cleanups.{up_rises, up_as, moved_by, goes_up}
use Rattle.engine.proofs.PinsRisen.{others_by}
use Rattle.engine.proofs.db.Db.cleanup.Goals as goal

pub returns-clause-cleaned : goal.returns-clause-cleaned
returns-clause-cleaned g c = c.maintained-cleaned.ensures.answered

pub returns-clause-others : goal.returns-clause-others
returns-clause-others g c =
    let e = c.maintained-cleaned.ensures in
    λ p session.
    others_by (up_rises g.D.Disk _ _ e.path.0 (e.session.free ∙ sym c.requires.session.free) e.path.2) _
    e.session.rests p session

pub returns-clause-moves : goal.returns-clause-moves
returns-clause-moves g c =
    let e = c.maintained-cleaned.ensures in
    moved_by g.D.Disk c.placing_keeps.ensures.history _ _ e.path.0 (up_as g.D.Disk _ _ e.path.0 e.path.1 e.path.2)

pub returns-clause-goes_on : goal.returns-clause-goes_on
returns-clause-goes_on g c =
    let e = c.maintained-cleaned.ensures in
    goes_up g.D.Disk _ _ e.path.0 e.path.2
    (subst (λ (s : DbValue g.row.D.Denot). HasFlushed g.D.Disk s.frames.journal) c.self.view_is
    c.keeps_history.ensures.flushed)

pub returns-clause-fault : goal.returns-clause-fault
returns-clause-fault g c = c.maintained-cleaned.ensures.fault

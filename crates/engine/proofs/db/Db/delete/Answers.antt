-- A document is deleted.
use Rattle.std.proofs.Common.{subst}
use Rattle.buffer_frames.specs.Beginnings.{HasFlushed}
use Rattle.engine.specs.Db.{DbValue}
use Rattle.engine.proofs.Growing.{goes_on_by}
use Rattle.engine.proofs.PinsRisen.{others_stay, own_stays}
use Rattle.engine.proofs.db.Db.delete.Goals as goal

pub returns-clause-answered : goal.returns-clause-answered
returns-clause-answered g c = c.take_away-deleted.ensures.answered

pub returns-clause-session : goal.returns-clause-session
returns-clause-session g c =
    own_stays g.D.Disk (c.take_away-deleted.ensures.path).1 c.args.pass.now _ c.requires.session
    c.take_away-deleted.ensures.session

pub returns-clause-others : goal.returns-clause-others
returns-clause-others g c =
    others_stay g.D.Disk (c.take_away-deleted.ensures.path).1 _ c.take_away-deleted.ensures.session

pub returns-clause-goes_on : goal.returns-clause-goes_on
returns-clause-goes_on g c =
    goes_on_by g.D.Disk c.take_away-deleted.ensures.path.1
    (subst (λ (s : DbValue g.row.D.Denot). HasFlushed g.D.Disk s.frames.journal) c.self.view_is
    c.keeps_history.ensures.flushed)

pub returns-clause-lawful : goal.returns-clause-lawful
returns-clause-lawful g c = c.take_away-deleted.ensures.lawful

pub returns-clause-fault : goal.returns-clause-fault
returns-clause-fault g c = c.take_away-deleted.ensures.fault

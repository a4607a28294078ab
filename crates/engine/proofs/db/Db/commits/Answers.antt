-- The flushed commits.
use Rattle.std.proofs.Common.{subst}
use Rattle.buffer_frames.specs.Beginnings.{HasFlushed}
use Rattle.engine.specs.Db.{DbValue}
use Rattle.engine.proofs.Growing.{goes_on_by}
use Rattle.engine.proofs.Searching.{only_reads}
use Rattle.engine.proofs.PinsRisen.{others_stay, own_stays}
use Rattle.engine.proofs.db.Db.commits.Goals as goal

pub returns-clause-listed : goal.returns-clause-listed
returns-clause-listed g c = c.commits_now-commits.ensures.listed

pub returns-clause-session : goal.returns-clause-session
returns-clause-session g c =
    own_stays g.D.Disk c.commits_now-commits.ensures.path c.args.pass.now _ c.requires.session
    c.commits_now-commits.ensures.session

pub returns-clause-others : goal.returns-clause-others
returns-clause-others g c =
    others_stay g.D.Disk c.commits_now-commits.ensures.path _ c.commits_now-commits.ensures.session

pub returns-clause-reads : goal.returns-clause-reads
returns-clause-reads g c = only_reads g.D.Disk _ _ c.commits_now-commits.ensures.path

pub returns-clause-goes_on : goal.returns-clause-goes_on
returns-clause-goes_on g c =
    goes_on_by g.D.Disk c.commits_now-commits.ensures.path
    (subst (λ (s : DbValue g.row.D.Denot). HasFlushed g.D.Disk s.frames.journal) c.self.view_is
    c.keeps_history.ensures.flushed)

pub returns-clause-fault : goal.returns-clause-fault
returns-clause-fault g c = c.commits_now-commits.ensures.fault

use Rattle.std.proofs.Common.{length}
use Rattle.engine.proofs.RowPuts.{RowsSoFar}
use Rattle.engine.proofs.db.Db.put_rows.Given as goal

abbrev pub invariant-loop-page : goal.invariant-loop-page
invariant-loop-page g l =
    RowsSoFar g.D.Disk l.fn.self l.fn.pass l.work l.name l.initial.pages.items l.pages.items l.last l.self l.pass

abbrev pub decreases-loop-page : goal.decreases-loop-page
decreases-loop-page g l = length l.pages.items

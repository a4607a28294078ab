use Rattle.engine.proofs.Putting.{PutsSoFar}
use Rattle.engine.proofs.db.Db.put_document.Given as goal

abbrev pub invariant-loop-done : goal.invariant-loop-done
invariant-loop-done g l = PutsSoFar g.D.Disk l.fn.self l.fn.pass l.work l.bytes l.name l.done l.self l.pass

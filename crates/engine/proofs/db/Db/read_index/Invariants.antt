use Rattle.gin_scan.specs.Scanning.{steps_left}
use Rattle.engine.proofs.IndexReads.{ScansOn, store_of}
use Rattle.engine.proofs.db.Db.read_index.Given as goal

abbrev pub invariant-loop : goal.invariant-loop
invariant-loop g l =
    ScansOn g.D.Disk l.initial.scan.query.now l.fn.self l.fn.pass
    (store_of l.self-inside.pending l.self-inside.frames) l.pass l.scan

abbrev pub decreases-loop : goal.decreases-loop
decreases-loop g l = steps_left l.scan.core

use Rattle.gin_opclass.specs.Class.{meaning}
use Rattle.ts_match.specs.Meaning.{Holds}
use Rattle.ts_match.specs.Judging.{judged}
use Rattle.ts_match.specs.Class.{asked_of, reads_all}
use Rattle.gin_scan.specs.Scanning.{IsScanning, Scanning, steps_left}
use Rattle.gin_scan.specs.TextScans.{IsFor}
use Rattle.index_cases.proofs.scans.step_all.Given as goal

abbrev pub invariant-loop-steps : goal.invariant-loop-steps
invariant-loop-steps g l = record {
  scanning : IsScanning l.frames l.pass l.scan.core;
  query : IsFor l.scan.query.now l.scan;
  walk : Scanning g.D.Disk (meaning asked_of reads_all Holds judged) l.scan.query.now l.frames l.pass l.scan.core;
}

abbrev pub decreases-loop-steps : goal.decreases-loop-steps
decreases-loop-steps g l = steps_left l.scan.core

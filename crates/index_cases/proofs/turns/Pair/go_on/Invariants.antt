use Rattle.index_cases.specs.Turns.{Scans, Keeps}
use Rattle.index_cases.proofs.turns.Pair.go_on.Given as goal

abbrev pub invariant-loop-number : goal.invariant-loop-number
invariant-loop-number g l = record {
  scans : Scans g.D.Disk l.frames l.pass l.self.scan;
  keeps : Keeps g.D.Disk l.frames l.other l.self.upkeep;
}

use Rattle.std.proofs.Common.{◌≡◌, ◌<◌, ℕ}
use Rattle.engine.specs.Going.{MetNoFault}
use Rattle.engine.specs.Inner.Choosing.{IsPassedOver, WorksOn}
use Rattle.engine.proofs.db.Db.choose_page.Given as goal

abbrev pub invariant-loop-number : goal.invariant-loop-number
invariant-loop-number g l = record {
  works : WorksOn g.D.Disk l.fn.self l.fn.pass l.self l.pass;
  met : MetNoFault g.D.Disk l.fn.self l.self;
  none : l.pass.held ≡ 0;
  passed : (k : ℕ) → k < l.number → IsPassedOver l.fn.self l.head k;
}

use Rattle.std.proofs.Common.{◌≡◌, ◌⊎◌}
use Rattle.engine.specs.Going.{MetNoFault}
use Rattle.engine.specs.Inner.Choosing.{WorksOn, HoldsNoMore, CannotTake}
use Rattle.engine.specs.declared.error.DbError.TheVariants as store
use Rattle.engine.proofs.db.Db.hold_new_page.Given as goal

abbrev pub invariant-loop : goal.invariant-loop
invariant-loop g l = record {
  works : WorksOn g.D.Disk l.fn.self l.fn.pass l.self l.pass;
  met : MetNoFault g.D.Disk l.fn.self l.self;
  no_more : HoldsNoMore g.D.Disk l.fn.self l.fn.pass l.self l.pass;
  last : (l.counter ≡ 0) ⊎ CannotTake g.D.Disk l.fn.self l.self (store.BadPage l.last);
}

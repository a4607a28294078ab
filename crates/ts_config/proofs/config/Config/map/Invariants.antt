use Rattle.std.proofs.Common.{◌≡◌, take}
use Rattle.ts_config.specs.Mappings.{mapped}
use Rattle.ts_config.proofs.Mappings.{AreMarked}
use Rattle.ts_config.proofs.config.Config.map.Given as goal

abbrev pub invariant-loop-kind : goal.invariant-loop-kind
invariant-loop-kind l = record {
  value : l.self ≡ mapped (take l.kind-index l.kinds) l.places l.initial.self;
  marked : AreMarked l.seen l.places l.self;
}

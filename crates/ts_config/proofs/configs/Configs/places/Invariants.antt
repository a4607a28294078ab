use Rattle.std.proofs.Common.{map, take}
use Rattle.ts_config.specs.Known.{ArePlaces}
use Rattle.ts_config.proofs.configs.Configs.places.Given as goal

abbrev pub invariant-loop-name : goal.invariant-loop-name
invariant-loop-name g l = ArePlaces l.self (map g.N.AsStr.text (take l.name-index l.names)) l.places.items

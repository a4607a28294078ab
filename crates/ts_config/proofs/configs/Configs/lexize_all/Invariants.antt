use Rattle.std.proofs.Common.{length}
use Rattle.ts_config.proofs.Placing.{Done}
use Rattle.ts_config.proofs.configs.Configs.lexize_all.Given as goal

abbrev pub invariant-loop-token : goal.invariant-loop-token
invariant-loop-token l = Done l.self l.config l.text l.left l.out.items l.position

abbrev pub decreases-loop-token : goal.decreases-loop-token
decreases-loop-token l = length l.left

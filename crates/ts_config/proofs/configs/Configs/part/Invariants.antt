use Rattle.std.proofs.Common.{◌≡◌}
use Rattle.ts_config.proofs.Parts.{DecidesFrom}
use Rattle.ts_config.proofs.configs.Configs.part.Given as goal

abbrev pub invariant-loop-place : goal.invariant-loop-place
invariant-loop-place l = record {
  unmoved : l.left ≡ l.initial.left;
  decided : DecidesFrom l.self l.config l.text l.token l.initial.left l.places l.place-index;
}

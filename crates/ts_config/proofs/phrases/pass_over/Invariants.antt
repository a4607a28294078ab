use Rattle.std.proofs.Common.{◌≡◌, length}
use Rattle.ts_config.specs.Phrases.{behind}
use Rattle.ts_config.proofs.phrases.pass_over.Given as goal

abbrev pub invariant-loop-count : goal.invariant-loop-count
invariant-loop-count l = behind l.config l.initial.count l.initial.left ≡ behind l.config l.count l.left

abbrev pub decreases-loop-count : goal.decreases-loop-count
decreases-loop-count l = length l.left

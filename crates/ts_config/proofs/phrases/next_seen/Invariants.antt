use Rattle.std.proofs.Common.{length}
use Rattle.ts_config.proofs.Looking.{Passed}
use Rattle.ts_config.proofs.phrases.next_seen.Given as goal

abbrev pub invariant-loop-token : goal.invariant-loop-token
invariant-loop-token l = Passed l.config l.place l.initial.ahead l.ahead

abbrev pub decreases-loop-token : goal.decreases-loop-token
decreases-loop-token l = length l.ahead

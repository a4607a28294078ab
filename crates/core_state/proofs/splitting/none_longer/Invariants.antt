use Rattle.core_state.proofs.LongestParts.{SizedSoFar}
use Rattle.core_state.proofs.splitting.none_longer.Given as goal

abbrev pub invariant-loop-k : goal.invariant-loop-k
invariant-loop-k l = SizedSoFar l.front l.size l.back l.k

use Rattle.std.proofs.Common.{◌≡◌, ℕ, ◌<◌, get_or, vec_len}
use Rattle.ts_match.proofs.bit_sets.clear.Given as goal

pub record SoFar (l : goal.Live-loop-k) : Type 0 where
  pub below : (k : ℕ) → k < l.k → get_or l.bits.words.items k 0 ≡ 0
  pub len : vec_len l.bits.words ≡ vec_len l.initial.bits.words

abbrev pub invariant-loop-k : goal.invariant-loop-k
invariant-loop-k l = SoFar l

use Rattle.std.proofs.Common.{◌≡◌, ℕ, ◌<◌, ◌≤◌, get_or, vec_len}
use Rattle.std.specs.Prelude.{bit_or}
use Rattle.ts_match.proofs.bit_sets.join.Given as goal

pub record SoFar (l : goal.Live-loop-k) : Type 0 where
  pub below : (k : ℕ) → k < l.k
      → get_or l.bits.words.items k 0 ≡ bit_or (get_or l.initial.bits.words.items k 0) (get_or l.other.words.items k 0)
  pub above : (k : ℕ) → l.k ≤ k → get_or l.bits.words.items k 0 ≡ get_or l.initial.bits.words.items k 0
  pub rest : l.bits.rest ≡ l.initial.bits.rest
  pub len : vec_len l.bits.words ≡ vec_len l.initial.bits.words

abbrev pub invariant-loop-k : goal.invariant-loop-k
invariant-loop-k l = SoFar l

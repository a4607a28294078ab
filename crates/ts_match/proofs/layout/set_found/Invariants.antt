use Rattle.std.proofs.Common.{◌≡◌, ℕ, ◌||◌, vec_len}
use Rattle.std.specs.List.{list_any, slice_range}
use Rattle.ts_match.specs.Inner.BitSets.{bit_value}
use Rattle.ts_match.proofs.Laid.{sets_some}
use Rattle.ts_match.proofs.layout.set_found.Given as goal

pub record SoFar (l : goal.Live-loop-i) : Type 0 where
  pub value : (j : ℕ) → bit_value l.count l.bits j ≡ (bit_value l.count l.fn.bits j
      || list_any (sets_some l.how.by j l.how.weights) (slice_range l.vector l.initial.i l.i))
  pub len : vec_len l.bits.words ≡ vec_len l.fn.bits.words

abbrev pub invariant-loop-i : goal.invariant-loop-i
invariant-loop-i l = SoFar l

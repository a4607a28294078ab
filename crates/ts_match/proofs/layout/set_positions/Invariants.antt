use Rattle.std.proofs.Common.{◌≡◌, ℕ, ◌||◌, take, vec_len}
use Rattle.std.specs.List.{list_any}
use Rattle.ts_match.specs.Inner.BitSets.{bit_value}
use Rattle.ts_match.proofs.Laid.{sets}
use Rattle.ts_match.proofs.layout.set_positions.Given as goal

pub record SoFar (l : goal.Live-loop-position) : Type 0 where
  pub value : (j : ℕ) → bit_value l.count l.bits j
      ≡ (bit_value l.count l.initial.bits j || list_any (sets l.by j l.weights) (take l.position-index l.positions))
  pub len : vec_len l.bits.words ≡ vec_len l.initial.bits.words

abbrev pub invariant-loop-position : goal.invariant-loop-position
invariant-loop-position l = SoFar l

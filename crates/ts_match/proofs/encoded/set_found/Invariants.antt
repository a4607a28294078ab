use Rattle.std.proofs.Common.{◌≡◌, ℕ, ◌||◌, vec_len}
use Rattle.std.specs.Prelude.{Contains}
use Rattle.std.specs.List.{list_any}
use Rattle.ts_base.specs.Vectors.{Position}
use Rattle.ts_match.specs.Inner.BitSets.{bit_value}
use Rattle.ts_match.proofs.Laid.{sets}
use Rattle.ts_match.proofs.Walks.{positions_in}
use Rattle.ts_match.proofs.encoded.set_found.Given as goal

pub record SoFar (l : goal.Live-loop-position) : Type 0 where
  pub value : (j : ℕ) → (bit_value l.count l.bits j || list_any (sets l.how.by j l.how.weights) l.position-iterator)
      ≡ (bit_value l.count l.fn.bits j || list_any (sets l.how.by j l.how.weights)
      (positions_in l.vector l.fn.found.first l.fn.found.end))
  pub inside : (p : Position) → Contains l.position-iterator p
      → Contains (positions_in l.vector l.fn.found.first l.fn.found.end) p
  pub len : vec_len l.bits.words ≡ vec_len l.fn.bits.words

abbrev pub invariant-loop-position : goal.invariant-loop-position
invariant-loop-position l = SoFar l

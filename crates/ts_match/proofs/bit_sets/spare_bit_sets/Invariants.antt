use Rattle.std.proofs.Common.{◌≡◌, vec_len, vec_capacity}
use Rattle.std.specs.Prelude.{All}
use Rattle.ts_match.specs.Inner.BitSets.{IsWide}
use Rattle.ts_match.proofs.bit_sets.spare_bit_sets.Given as goal

pub record SoFar (l : goal.Live-loop) : Type 0 where
  pub len : vec_len l.bit_sets ≡ l.counter
  pub room : vec_capacity l.bit_sets ≡ l.height
  pub wide : All (IsWide l.count) l.bit_sets.items

abbrev pub invariant-loop : goal.invariant-loop
invariant-loop l = SoFar l

use Rattle.std.proofs.Common.{◌≡◌, ◌+◌, ◌-◌, length, vec_len, vec_capacity}
use Rattle.ts_match.specs.Meaning.{Holds}
use Rattle.ts_match.specs.Inner.Heights.{SameBitSets}
use Rattle.ts_match.proofs.Units.{Way}
use Rattle.ts_match.proofs.matching.evaluate.Given as goal

pub record Walking (l : goal.Live-loop-from) : Type 0 where
  pub way : Way l.vector l.operands l.steps (Holds l.query l.vector) l.from
  pub bit_sets : SameBitSets l.fn.bit_sets.stack.items l.fn.bit_sets.spare.items l.bit_sets.stack.items
      l.bit_sets.spare.items
  pub found : vec_len l.found ≡ vec_len l.fn.found
  pub truths : vec_capacity l.truths ≡ vec_capacity l.fn.truths

abbrev pub invariant-loop-from : goal.invariant-loop-from
invariant-loop-from l = Walking l

abbrev pub decreases-loop-from : goal.decreases-loop-from
decreases-loop-from l = length l.steps + 1 - l.from

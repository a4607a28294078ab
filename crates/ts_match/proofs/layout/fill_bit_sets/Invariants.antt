use Rattle.std.proofs.Common.{◌≡◌, ℕ, ◌+◌, [], drop, length, reverse}
use Rattle.ts_match.specs.Inner.BitSets.{truths_at, beginning}
use Rattle.ts_match.specs.Inner.Heights.{HaveRoom, SameBitSets}
use Rattle.ts_match.specs.Inner.Phrases.{leaf_value}
use Rattle.ts_match.proofs.Tables.{run}
use Rattle.ts_match.proofs.layout.fill_bit_sets.Given as goal

pub record Running (l : goal.Live-loop-step) : Type 0 where
  pub run : (j : ℕ) → run (leaf_value l.phrase.vector.now l.phrase.operands.now
      (beginning l.reach j)) (drop l.step-index l.step-items) (truths_at l.count j (reverse l.bit_sets.stack.items))
      ≡ run (leaf_value l.phrase.vector.now l.phrase.operands.now (beginning l.reach j)) l.phrase.steps.now []
  pub kept : SameBitSets l.fn.bit_sets.stack.items l.fn.bit_sets.spare.items l.bit_sets.stack.items
      l.bit_sets.spare.items
  pub room : HaveRoom (length l.fn.bit_sets.stack.items + length l.fn.bit_sets.spare.items)
      (drop l.step-index l.step-items) (length l.bit_sets.stack.items)
  pub same : l.step-items ≡ l.phrase.steps.now

abbrev pub invariant-loop-step : goal.invariant-loop-step
invariant-loop-step l = Running l

use Rattle.std.proofs.Common.{◌≡◌, ℕ, ◌+◌, ◌-◌, ◌<◌, false, get_or, vec_capacity}
use Rattle.ts_base.specs.Vectors.{Position}
use Rattle.ts_query.specs.Queries.{Tree}
use Rattle.ts_match.specs.declared.ranges.TheConstants.{FARTHEST}
use Rattle.ts_match.specs.Meaning.{at}
use Rattle.ts_match.specs.Inner.Phrases.{IsPhraseOf, place_from}
use Rattle.ts_match.proofs.phrase.holds_with_any.Given as goal

pub record NoneYet (l : goal.Live-loop-position) : Type 0 where
  pub none : (t : Tree) (j : ℕ) (d : Position)
      → IsPhraseOf l.phrase.operands.now l.phrase.steps.now t → j < l.position-index
      → at l.phrase.vector.now t (place_from t ((get_or l.positions j d).at + FARTHEST - l.offset)) ≡ false
  pub capacity : vec_capacity l.stack ≡ vec_capacity l.fn.stack

abbrev pub invariant-loop-position : goal.invariant-loop-position
invariant-loop-position l = NoneYet l

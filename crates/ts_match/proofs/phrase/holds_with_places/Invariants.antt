use Rattle.std.proofs.Common.{◌≡◌, ◌+◌, ◌-◌, ◌⊎◌, false, vec_capacity}
use Rattle.std.specs.Prelude.{Contains}
use Rattle.ts_base.specs.Vectors.{Position}
use Rattle.ts_query.specs.Queries.{Tree}
use Rattle.ts_match.specs.declared.ranges.TheConstants.{FARTHEST}
use Rattle.ts_match.specs.Meaning.{at}
use Rattle.ts_match.specs.Inner.Phrases.{IsPhraseOf, place_from}
use Rattle.ts_match.proofs.phrase.holds_with_places.Given as goal

pub record NoneYet (l : goal.Live-loop-position) : Type 0 where
  pub none : (t : Tree) (p : Position) → IsPhraseOf l.phrase.operands.now l.phrase.steps.now t → Contains l.fn.places p
      → (at l.phrase.vector.now t (place_from t (p.at + FARTHEST - l.offset)) ≡ false) ⊎ Contains l.position-iterator p
  pub capacity : vec_capacity l.stack ≡ vec_capacity l.fn.stack

abbrev pub invariant-loop-position : goal.invariant-loop-position
invariant-loop-position l = NoneYet l

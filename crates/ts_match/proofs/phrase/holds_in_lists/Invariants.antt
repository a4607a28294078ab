use Rattle.std.proofs.Common.{◌≡◌, ℕ, ◌+◌, ◌-◌, ◌<◌, ◌≤◌, false, get_or, vec_capacity}
use Rattle.std.specs.Prelude.{Contains}
use Rattle.ts_base.specs.Vectors.{Position, Entry}
use Rattle.ts_query.specs.Queries.{Tree}
use Rattle.ts_match.specs.declared.ranges.TheConstants.{FARTHEST}
use Rattle.ts_match.specs.Meaning.{at}
use Rattle.ts_match.specs.Inner.Phrases.{IsPhraseOf, place_from}
use Rattle.ts_match.proofs.phrase.holds_in_lists.Given as goal

pub record NoneYet (l : goal.Live-loop-k) : Type 0 where
  pub none : (t : Tree) (j : ℕ) (e : Entry) (p : Position) → IsPhraseOf l.phrase.operands.now l.phrase.steps.now t
      → l.fn.found.first ≤ j → j < l.k
      → Contains (get_or l.vector j e).positions p
      → at l.phrase.vector.now t (place_from t (p.at + FARTHEST - l.offset)) ≡ false
  pub capacity : vec_capacity l.stack ≡ vec_capacity l.fn.stack

abbrev pub invariant-loop-k : goal.invariant-loop-k
invariant-loop-k l = NoneYet l

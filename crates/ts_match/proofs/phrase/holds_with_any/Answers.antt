use Rattle.std.proofs.Common.{◌+◌, ◌-◌, refl, sym, ◌∙◌}
use Rattle.ts_match.specs.declared.ranges.TheConstants.{FARTHEST}
use Rattle.ts_match.specs.Inner.Phrases.{place_from}
use Rattle.ts_match.proofs.phrase.holds_with_any.Goals as goal

pub returns-then-holds_at-clause-tried : goal.returns-then-holds_at-clause-tried
returns-then-holds_at-clause-tried c = record {
  sound = λ t p h. (
    place_from t (c.at.result + FARTHEST - c.args.offset),
    sym (c.holds_at.ensures.meaning t p) ∙ c.if-holds_at.true,
  );
  whole = λ t q p h a. refl;
}

use Rattle.std.proofs.Common.{◌+◌, ◌-◌, List, inl, inr, refl, sym, ap, subst, ◌∙◌}
use Rattle.std.specs.Prelude.{Contains}
use Rattle.std.proofs.lemmas.Bool.{both_ways}
use Rattle.ts_base.specs.Vectors.{Position}
use Rattle.ts_match.specs.declared.ranges.TheConstants.{FARTHEST}
use Rattle.ts_match.specs.Meaning.{at}
use Rattle.ts_match.specs.Inner.Phrases.{place_from}
use Rattle.ts_match.specs.Laws.Elements.{Contains-cases, Contains-none}
use Rattle.ts_match.proofs.phrase.holds_with_places.Goals as goal

pub loop-position-init : goal.loop-position-init
loop-position-init c = record {
  none = λ t p ph h. inr
      (subst (λ (ps : List Position). Contains ps p) (sym c.into_iter-position-iterator.ensures.into_iter_gives) h);
  capacity = refl;
}

pub returns-then-holds_at-clause-tried : goal.returns-then-holds_at-clause-tried
returns-then-holds_at-clause-tried c = record {
  sound = λ t p h. (
    place_from t (c.at.result + FARTHEST - c.args.offset),
    sym (c.holds_at.ensures.meaning t p) ∙ c.if-holds_at.true,
  );
  whole = λ t q p h a. refl;
}

pub loop-position-preserved : goal.loop-position-preserved
loop-position-preserved c = record {
  none = λ t p ph h. elim (c.loop-position.invariant.none t p ph h) [
    | inl q ↦ inl q
    | inr q ↦ elim (Contains-cases c.in-Some.position p c.next.new.self
        (subst (λ (ps : List Position). Contains ps p) c.in-Some.ensures.steps q)) [
          | inl e ↦ inl (
              ap (λ n. at c.args.phrase.now.vector.now t (place_from t (n + FARTHEST - c.args.offset)))
              (ap (λ (x : Position). x.at) e ∙ sym c.at.ensures.value)
              ∙ sym (c.holds_at.ensures.meaning t ph) ∙ c.if-holds_at.false)
          | inr k ↦ inr k
        ]
  ];
  capacity = c.holds_at.ensures.capacity ∙ c.loop-position.invariant.capacity;
}

pub returns-clause-tried : goal.returns-clause-tried
returns-clause-tried c = record {
  sound = λ t p h. absurd (let x : ⊥ = cc in x);
  whole = λ t p ph h a. elim (c.loop-position.invariant.none t p ph h) [
    | inl q ↦ absurd (both_ways _ q a)
    | inr q ↦ absurd (Contains-none p (subst (λ (ps : List Position). Contains ps p) c.in-None.ensures.steps.0 q))
  ];
}

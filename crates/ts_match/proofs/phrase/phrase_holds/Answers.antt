use Rattle.std.proofs.Common.{◌≡◌, get_or, inl, inr, refl, sym, subst, ◌∙◌, arith}
use Rattle.std.proofs.lemmas.Bool.{cases_lt, both_ways}
use Rattle.std.proofs.lemmas.List.{get_or_default}
use Rattle.ts_match.specs.Inner.Phrases.{HoldsWith, place_from}
use Rattle.ts_match.proofs.Hits.{with_needed, with_some}
use Rattle.ts_match.proofs.phrase.phrase_holds.Goals as goal

pub returns-in-Some-clause-meaning : goal.returns-in-Some-clause-meaning
returns-in-Some-clause-meaning c t p =
    let q = c.args.phrase.now in (
      λ h. c.holds_with.ensures.sound t p h,
      λ h. c.holds_with.ensures.whole t p (with_needed q.vector.now q.operands.now q.steps.now c.requires.ready.normal
          c.requires.ready.steps t c.in-Some.step p c.in-Some.ensures h),
    )

pub returns-then-holds_at-clause-meaning : goal.returns-then-holds_at-clause-meaning
returns-then-holds_at-clause-meaning c t p =
    (λ h. (place_from t 0, sym (c.holds_at.ensures.meaning t p) ∙ c.if-holds_at.true), λ h. refl)

pub loop-step-preserved : goal.loop-step-preserved
loop-step-preserved c = record {
  none = λ t j d p l h. elim (cases_lt j c.loop-step.step-index) [
    | inl q ↦ c.loop-step.invariant.none t j d p q h
    | inr q ↦
        let same : j ≡ c.loop-step.step-index = omega arith in
        let here = subst (λ i. HoldsWith c.args.phrase.now.vector.now c.args.phrase.now.operands.now t
        (get_or c.args.phrase.now.steps.now i d)) same h in
        let there = subst (λ s. HoldsWith c.args.phrase.now.vector.now c.args.phrase.now.operands.now t s)
        (get_or_default c.args.phrase.now.steps.now c.loop-step.step-index d _ c.loop-step-test.true) here in
        both_ways _ c.if-holds_with.false (c.holds_with-in-loop-step.ensures.whole t p there)
  ];
  same = refl;
  capacity = c.holds_with-in-loop-step.ensures.capacity ∙ c.loop-step.invariant.capacity;
}

pub returns-clause-meaning : goal.returns-clause-meaning
returns-clause-meaning c t p =
    let q = c.args.phrase.now in (
      λ h. absurd (let x : ⊥ = cc in x),
      λ h. elim (with_some q.vector.now q.operands.now q.steps.now c.requires.ready.normal c.requires.ready.steps t p
          h) [
            | inl w ↦ absurd (c.loop-step.invariant.none t w.there.0 w.step p (omega (arith, w.there.1))
                (subst (λ s. HoldsWith q.vector.now q.operands.now t s) (sym w.there.2) w.holds))
            | inr a ↦ absurd (both_ways _ c.if-holds_at.false (c.holds_at.ensures.meaning t p ∙ a))
          ],
    )

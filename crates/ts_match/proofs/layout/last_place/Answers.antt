use Rattle.std.proofs.Common.{◌≡◌, get_or, inl, inr, refl, sym, ap, subst, ◌∙◌, arith}
use Rattle.std.proofs.lemmas.Bool.{cases_lt}
use Rattle.std.proofs.lemmas.List.{get_or_default}
use Rattle.ts_match.specs.declared.work.Step.{Step}
use Rattle.ts_match.specs.Inner.Phrases.{HasPlaces}
use Rattle.ts_match.proofs.Order.{greater_is}
use Rattle.ts_match.proofs.layout.last_place.Goals as goal

pub loop-step-preserved : goal.loop-step-preserved
loop-step-preserved c =
    let p = c.args.phrase.now in
    let i = c.loop-step.step-index in
    let g = greater_is c.loop-step.last c.last_of.result c.max-last.result c.max-last.ensures in record {
      each = λ reach count h k d l. elim (cases_lt k i) [
        | inl q ↦ c.loop-step.invariant.each reach count (let b = g.left in omega arith) k d q
        | inr q ↦
            let same : k ≡ c.loop-step.step-index = omega arith in
            let e = ap (λ j. get_or p.steps.now j d) same ∙ get_or_default p.steps.now i d _ c.loop-step-test.true in
            subst (λ (s : Step). HasPlaces c.args.phrase.now.vector.now c.args.phrase.now.found.now reach count s)
            (sym e) (c.last_of.ensures.each reach count (let b = g.right in omega arith))
      ];
      small = (let a = c.loop-step.invariant.small in
          let b = c.last_of.ensures.small in elim g.one [ inl x ↦ omega arith | inr x ↦ omega arith ]);
      same = refl;
    }

pub returns-clause-each : goal.returns-clause-each
returns-clause-each c = λ reach count h k d l. c.loop-step.invariant.each reach count h k d (omega arith)

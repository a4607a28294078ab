use Rattle.std.proofs.Common.{◌≡◌, get_or, inl, inr, ap, sym, subst, ◌∙◌, arith}
use Rattle.std.proofs.lemmas.Bool.{cases_lt}
use Rattle.std.proofs.lemmas.List.{get_or_default}
use Rattle.ts_match.specs.declared.work.Step.{Step}
use Rattle.ts_match.specs.Inner.Phrases.{HasRange}
use Rattle.ts_match.proofs.Prepared.{lacks}
use Rattle.ts_match.proofs.matching.find_leaves.Goals as goal

pub returns-then-not-find_leaf-clause-lacking : goal.returns-then-not-find_leaf-clause-lacking
returns-then-not-find_leaf-clause-lacking c = λ e n t p.
    let k = c.find_leaf.ensures.lacking c.if-not-find_leaf.true in
    lacks c.args.vector.now c.args.operands.now c.args.steps.now
    c.requires.steps c.loop-step.step-index _ k.0 k.1 c.loop-step-test.true
    (get_or_default c.args.steps.now c.loop-step.step-index _ _ c.loop-step-test.true) k.2 k.3 n t p

pub loop-step-preserved : goal.loop-step-preserved
loop-step-preserved c = record {
  found = λ i d l. elim (cases_lt i c.loop-step.step-index) [
    | inl q ↦ c.find_leaf.ensures.others (get_or c.args.steps.now i d) (c.loop-step.invariant.found i d q)
    | inr q ↦
        let same : i ≡ c.loop-step.step-index = omega arith in
        let e = ap (λ j. get_or c.args.steps.now j d) same
        ∙ get_or_default c.args.steps.now c.loop-step.step-index d _ c.loop-step-test.true in
        subst (λ (s : Step). HasRange c.args.vector.now c.args.operands.now c.find_leaf.new.found.items s)
        (sym e) c.find_leaf.ensures.here
  ];
  len = c.find_leaf.ensures.len ∙ c.loop-step.invariant.len;
}

use Rattle.std.proofs.Common.{◌≡◌, ◌≤◌, get_or, inl, inr, refl, sym, ap, ◌∙◌, arith}
use Rattle.std.proofs.lemmas.Bool.{cases_lt}
use Rattle.std.proofs.lemmas.List.{get_or_default}
use Rattle.std.proofs.lemmas.List.Elements.{Contains-get_or, All-contains}
use Rattle.ts_query.specs.declared.query.Node.TheVariants.{Leaf}
use Rattle.ts_match.specs.declared.work.Place.TheVariants.{Outside}
use Rattle.ts_match.specs.declared.work.Step.{Step}
use Rattle.ts_match.specs.declared.ranges.TheConstants.{FARTHEST}
use Rattle.ts_match.specs.Inner.Plan.{offset_of}
use Rattle.ts_match.proofs.Order.{greater_is}
use Rattle.ts_match.proofs.Reach.{reach_is}
use Rattle.ts_match.proofs.layout.reach_of.Goals as goal

first : Step
first = record { node = Leaf 0; place = Outside 0 0 }

pub loop-step-preserved : goal.loop-step-preserved
loop-step-preserved c =
    let ss = c.args.phrase.now.steps.now in
    let i = c.loop-step.step-index in
    let g = greater_is c.loop-step.reach c.offset.result c.max-reach.result c.max-reach.ensures in
    let far : offset_of (get_or c.args.phrase.now.steps.now c.loop-step.step-index first).place ≤ FARTHEST =
    (c.requires.steps i first c.loop-step-test.true).near in
    let here = λ (d : Step). c.offset.ensures
    ∙ ap (λ (s : Step). offset_of s.place) (get_or_default ss i _ d c.loop-step-test.true) in record {
      near = λ k d l. elim (cases_lt k i) [
        | inl q ↦ (let a = c.loop-step.invariant.near k d q in let b = g.left in omega arith)
        | inr q ↦
            let same : k ≡ c.loop-step.step-index = omega arith in
            let e = here d in
            let f = ap (λ j. offset_of (get_or ss j d).place) same in
            let b = g.right in omega arith
      ];
      far = (let e = here first in
          let a = c.loop-step.invariant.far in elim g.one [ inl x ↦ omega arith | inr x ↦ omega arith ]);
      some = elim g.one [
        | inl x ↦ elim c.loop-step.invariant.some [ inl z ↦ inl (x ∙ z) | inr s ↦ inr (s.0, s.1, s.2 ∙ sym x) ]
        | inr x ↦ inr (get_or ss i first, Contains-get_or ss i first c.loop-step-test.true, sym (here first) ∙ sym x)
      ];
      same = refl;
    }

pub returns-clause-near : goal.returns-clause-near
returns-clause-near c = λ k d l. c.loop-step.invariant.near k d (omega arith)

pub returns-clause-far : goal.returns-clause-far
returns-clause-far c = c.loop-step.invariant.far

pub returns-clause-width : goal.returns-clause-width
returns-clause-width c = λ t p. reach_is c.args.phrase.now.operands.now c.args.phrase.now.steps.now t p
    c.loop-step.reach (λ k d l. c.loop-step.invariant.near k d (omega arith)) c.loop-step.invariant.some

pub returns-clause-least : goal.returns-clause-least
returns-clause-least c = λ r a. elim c.loop-step.invariant.some [
  | inl z ↦ omega arith
  | inr s ↦ let x = All-contains (λ (s : Step). offset_of s.place ≤ r) c.args.phrase.now.steps.now s.0 a s.1 in
      omega (arith, s.2)
]

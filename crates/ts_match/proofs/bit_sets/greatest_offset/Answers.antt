use Rattle.std.proofs.Common.{◌≡◌, get_or, inl, inr, ap, ◌∙◌, arith}
use Rattle.std.proofs.lemmas.Bool.{cases_lt}
use Rattle.std.proofs.lemmas.List.{get_or_default}
use Rattle.ts_match.specs.declared.work.Step.{Step}
use Rattle.ts_match.specs.Inner.Plan.{offset_of}
use Rattle.ts_match.proofs.Order.{greater_is}
use Rattle.ts_match.proofs.bit_sets.greatest_offset.Goals as goal

pub loop-step-preserved : goal.loop-step-preserved
loop-step-preserved c =
    let ss = c.args.steps.now in
    let i = c.loop-step.step-index in
    let g = greater_is c.loop-step.reach c.offset.result c.max-reach.result c.max-reach.ensures in
    let here = λ (d : Step). c.offset.ensures
    ∙ ap (λ (s : Step). offset_of s.place) (get_or_default ss i _ d c.loop-step-test.true) in
    λ k d l. elim (cases_lt k i) [
      | inl q ↦ (let a = c.loop-step.invariant k d q in let b = g.left in omega arith)
      | inr q ↦
          let same : k ≡ c.loop-step.step-index = omega arith in
          let e = here d in
          let f = ap (λ j. offset_of (get_or ss j d).place) same in
          let b = g.right in omega arith
    ]

pub returns : goal.returns
returns c = λ k d l. c.loop-step.invariant k d (omega arith)

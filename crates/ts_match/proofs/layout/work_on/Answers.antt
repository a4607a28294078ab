use Rattle.std.proofs.Common.{inl, inr, sym, ap, ◌∙◌, reverse}
use Rattle.ts_match.specs.Inner.BitSets.{truths_at, beginning}
use Rattle.ts_match.specs.Inner.Phrases.{truth_step, leaf_value}
use Rattle.ts_match.proofs.layout.work_on.Goals as goal

pub returns-in-Leaf-clause-truths : goal.returns-in-Leaf-clause-truths
returns-in-Leaf-clause-truths c = λ j.
    let p = c.args.phrase.now in
    let x = leaf_value p.vector.now p.operands.now (beginning c.args.reach j) c.args.step in
    c.put_leaf.ensures.truths j ∙ ap
    (λ n. truth_step n x (truths_at c.args.count j (reverse c.args.bit_sets.now.stack.items))) (sym c.in-Leaf.is)

pub returns-in-Not-clause-truths : goal.returns-in-Not-clause-truths
returns-in-Not-clause-truths c = λ j.
    let p = c.args.phrase.now in
    let x = leaf_value p.vector.now p.operands.now (beginning c.args.reach j) c.args.step in
    c.negate_top.ensures.truths x j ∙ ap
    (λ n. truth_step n x (truths_at c.args.count j (reverse c.args.bit_sets.now.stack.items))) (sym c.in-Not.is)

pub returns-in-And-clause-truths : goal.returns-in-And-clause-truths
returns-in-And-clause-truths c = λ j.
    let p = c.args.phrase.now in
    let x = leaf_value p.vector.now p.operands.now (beginning c.args.reach j) c.args.step in
    let st = truths_at c.args.count j (reverse c.args.bit_sets.now.stack.items) in
    elim c.in-And.is [
      | inl e ↦ c.join_top.ensures.truths x j ∙ ap (λ n. truth_step n x st) (sym e)
      | inr q ↦ c.join_top.ensures.truths x j ∙ ap (λ n. truth_step n x st) (sym q.1)
    ]

pub returns-in-Or-clause-truths : goal.returns-in-Or-clause-truths
returns-in-Or-clause-truths c = λ j.
    let p = c.args.phrase.now in
    let x = leaf_value p.vector.now p.operands.now (beginning c.args.reach j) c.args.step in
    c.join_top-in-Or.ensures.truths x j
    ∙ ap (λ n. truth_step n x (truths_at c.args.count j (reverse c.args.bit_sets.now.stack.items))) (sym c.in-Or.is)

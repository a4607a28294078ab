use Rattle.std.proofs.Common.{◌≤◌, false, length, reverse, sym, ap, ◌∙◌, arith}
use Rattle.std.proofs.Math.ListN.{drop_of_length-le}
use Rattle.ts_match.specs.Inner.Stacks.{top_or}
use Rattle.ts_match.specs.Inner.Phrases.{leaf_value}
use Rattle.ts_match.proofs.Tables.{run, phrase_at}
use Rattle.ts_match.proofs.phrase.holds_at.Goals as goal

pub returns-clause-meaning : goal.returns-clause-meaning
returns-clause-meaning c t p =
    let g = leaf_value c.args.phrase.now.vector.now c.args.phrase.now.operands.now c.args.from in
    let done = drop_of_length-le c.args.phrase.now.steps.now
    (let l : length c.args.phrase.now.steps.now ≤ c.loop-step.step-index = omega arith in l) in
    c.take_top.ensures.top
    ∙ ap (top_or false)
    (ap (λ l. run g l (reverse c.loop-step.stack.items)) (sym done) ∙ c.loop-step.invariant.run ∙ phrase_at
    c.args.phrase.now.vector.now c.args.phrase.now.operands.now c.args.from c.args.phrase.now.steps.now t p)

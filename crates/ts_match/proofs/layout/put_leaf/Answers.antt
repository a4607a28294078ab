use Rattle.std.proofs.Common.{◌∷◌, ap, ◌∙◌, reverse}
use Rattle.ts_match.specs.Inner.BitSets.{truths_at}
use Rattle.ts_match.proofs.Laid.{pop_wide}
use Rattle.ts_match.proofs.Spares.{taken, height_pushed}
use Rattle.ts_match.proofs.layout.put_leaf.Goals as goal

pub lay-requires-clause-wide : goal.lay-requires-clause-wide
lay-requires-clause-wide c = (pop_wide c.args.count _ _ c.in-Some.bits c.in-Some.ensures.items c.requires.wide.spare).1

pub returns-clause-height : goal.returns-clause-height
returns-clause-height c = height_pushed _ _ _ c.put.ensures.stack

pub returns-clause-same : goal.returns-clause-same
returns-clause-same c = taken _ _ _ _ c.in-Some.bits _ c.in-Some.ensures.items c.put.ensures.stack c.lay.ensures.len

pub returns-clause-truths : goal.returns-clause-truths
returns-clause-truths c = λ j.
    ap (truths_at c.args.count j) c.put.ensures.stack
    ∙ ap (λ b. b ∷ truths_at c.args.count j (reverse c.args.bit_sets.now.stack.items)) (c.lay.ensures.value j)

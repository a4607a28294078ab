use Rattle.std.proofs.Common.{◌∷◌, sym, ap, ◌∙◌, reverse}
use Rattle.ts_query.specs.declared.query.Node.TheVariants.{Not}
use Rattle.ts_match.specs.Inner.BitSets.{truths_at}
use Rattle.ts_match.specs.Inner.Phrases.{truth_step}
use Rattle.ts_match.proofs.Laid.{pop_wide, truths_pop}
use Rattle.ts_match.proofs.Spares.{changed, height_pushed, height_popped}
use Rattle.ts_match.proofs.layout.negate_top.Goals as goal

pub negate-requires : goal.negate-requires
negate-requires c = (pop_wide c.args.count _ _ c.in-Some.bits c.in-Some.ensures.items c.requires.wide.stack).1

pub returns-clause-height : goal.returns-clause-height
returns-clause-height c =
    height_pushed _ _ _ c.put.ensures.stack ∙ sym (height_popped _ _ c.in-Some.bits c.in-Some.ensures.items)

pub returns-clause-same : goal.returns-clause-same
returns-clause-same c =
    changed _ _ _ _ c.in-Some.bits _ c.in-Some.ensures.items c.put.ensures.stack c.negate.ensures.len

pub returns-clause-truths : goal.returns-clause-truths
returns-clause-truths c = λ value j.
    ap (truths_at c.args.count j) c.put.ensures.stack
    ∙ ap (λ b. b ∷ truths_at c.args.count j (reverse c.pop.new.self.items)) (c.negate.ensures.value j)
    ∙ ap (truth_step Not value) (sym (truths_pop c.args.count j _ _ c.in-Some.bits c.in-Some.ensures.items))

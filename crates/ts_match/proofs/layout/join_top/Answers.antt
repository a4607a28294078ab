use Rattle.std.proofs.Common.{◌≡◌, ◌∷◌, List, Bool, true, false, ◌&&◌, ◌||◌, refl, sym, ap, ◌∙◌, reverse}
use Rattle.std.specs.Prelude.{if◌then◌else◌}
use Rattle.ts_query.specs.declared.query.Node.TheVariants.{And, Or}
use Rattle.ts_match.specs.Inner.BitSets.{truths_at, bit_value}
use Rattle.ts_match.specs.Inner.Phrases.{truth_step}
use Rattle.ts_match.proofs.Laid.{pop_wide, truths_pop}
use Rattle.ts_match.proofs.Spares.{same_trans, freed, changed, height_joined}
use Rattle.ts_match.proofs.layout.join_top.Goals as goal

stepped : (both value l r : Bool) (st : List Bool)
    → (if both then (l && r) else (l || r)) ∷ st ≡ truth_step (if both then And else Or) value (r ∷ l ∷ st)
stepped true value l r st = refl
stepped false value l r st = refl

pub combine-requires-clause-wide : goal.combine-requires-clause-wide
combine-requires-clause-wide c =
    let p = pop_wide c.args.count _ _ c.in-Some.right c.in-Some.ensures.items c.requires.wide.stack in
    (pop_wide c.args.count _ _ c.in-Some-pop.left c.in-Some-pop.ensures.items p.0).1

pub combine-requires-clause-other : goal.combine-requires-clause-other
combine-requires-clause-other c =
    (pop_wide c.args.count _ _ c.in-Some.right c.in-Some.ensures.items c.requires.wide.stack).1

pub returns-clause-truths : goal.returns-clause-truths
returns-clause-truths c = λ value j.
    let count = c.args.count in
    let r = bit_value count c.in-Some.right j in
    let l = bit_value count c.in-Some-pop.left j in
    let st = truths_at count j (reverse c.pop-2.new.self.items) in
    ap (truths_at count j) c.put.ensures.stack ∙ ap (λ b. b ∷ st) (c.combine.ensures.value j)
    ∙ stepped c.args.both value l r st
    ∙ ap (λ x. truth_step (if c.args.both then And else Or) value (r ∷ x))
    (sym (truths_pop count j _ _ c.in-Some-pop.left c.in-Some-pop.ensures.items))
    ∙ ap (truth_step (if c.args.both then And else Or) value)
    (sym (truths_pop count j _ _ c.in-Some.right c.in-Some.ensures.items))

pub returns-clause-height : goal.returns-clause-height
returns-clause-height c = height_joined _ _ _ _ c.in-Some.right c.in-Some-pop.left _ c.in-Some.ensures.items
    c.in-Some-pop.ensures.items c.put.ensures.stack

pub returns-clause-same : goal.returns-clause-same
returns-clause-same c =
    same_trans _ _ _ _ _ _ (freed _ _ _ _ c.in-Some.right c.in-Some.ensures.items c.push_reserved.ensures.items)
    (changed _ _ _ _ c.in-Some-pop.left _ c.in-Some-pop.ensures.items c.put.ensures.stack c.combine.ensures.len)

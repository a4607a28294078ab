use Rattle.std.proofs.Common.{◌≡◌, ◌+◌, ◌-◌, get_or, sym, ap, subst, ◌∙◌}
use Rattle.std.specs.Prelude.{IsTrue, slice_get}
use Rattle.std.proofs.lemmas.Option.{get_or_from_slice_get}
use Rattle.ts_query.specs.declared.query.Node.TheVariants.{Leaf}
use Rattle.ts_match.specs.declared.ranges.TheConstants.{FARTHEST}
use Rattle.ts_match.specs.declared.work.Step.{Step}
use Rattle.ts_match.specs.Meaning.{at}
use Rattle.ts_match.specs.Inner.Ranges.{NamesRange}
use Rattle.ts_match.specs.Inner.Plan.{offset_of}
use Rattle.ts_match.specs.Inner.Phrases.{place_from, no_operand}
use Rattle.ts_match.proofs.Prepared.{leaf_found}
use Rattle.ts_match.proofs.Lookups.{nothing, stands_in}
use Rattle.ts_match.proofs.phrase.holds_with.Goals as goal

pub holds_in-requires-clause-within : goal.holds_in-requires-clause-within
holds_in-requires-clause-within c =
    let p = c.args.phrase.now in
    (leaf_found p.vector.now p.operands.now p.found.now c.args.step.node c.in-Leaf.k c.in-Leaf.is c.requires.found
    no_operand (record { first = 0; end = 0 })).within

pub returns-in-Leaf-clause-whole : goal.returns-in-Leaf-clause-whole
returns-in-Leaf-clause-whole c t ph h =
    let q = c.args.phrase.now in
    let f = leaf_found q.vector.now q.operands.now q.found.now c.args.step.node c.in-Leaf.k c.in-Leaf.is
    c.requires.found no_operand (record { first = 0; end = 0 }) in
    let node : Leaf c.in-Leaf.k ≡ Leaf h.number = sym c.in-Leaf.is ∙ ap (λ (s : Step). s.node) h.is_leaf in
    let same : c.in-Leaf.k ≡ h.number = cc in
    let o : get_or c.args.phrase.now.operands.now c.in-Leaf.k no_operand ≡ h.operand =
    get_or_from_slice_get c.args.phrase.now.operands.now c.in-Leaf.k h.operand no_operand
    (ap (slice_get c.args.phrase.now.operands.now) same ∙ h.is_operand) in
    let i = subst (λ x. NamesRange c.args.phrase.now.vector.now x
    (get_or c.args.phrase.now.found.now c.in-Leaf.k (record { first = 0; end = 0 }))) o f in
    let s = stands_in c.args.phrase.now.vector.now h.operand
    (get_or c.args.phrase.now.found.now c.in-Leaf.k (record { first = 0; end = 0 })) h.p i h.stands in
    let off : h.offset ≡ c.offset.result = sym (c.offset.ensures ∙ ap (λ (x : Step). offset_of x.place) h.is_leaf) in
    c.holds_in.ensures.whole t s.index nothing s.position ph s.from s.below s.there
    (subst (λ e. IsTrue (at c.args.phrase.now.vector.now t (place_from t (s.position.at + FARTHEST - e)))) off
    (subst (λ x. IsTrue (at c.args.phrase.now.vector.now t (place_from t (x + FARTHEST - h.offset))))
    (sym s.is) h.holds))

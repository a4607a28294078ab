use Rattle.std.proofs.Common.{Bool, sym, ap, ◌∙◌}
use Rattle.std.specs.List.{list_any, slice_range}
use Rattle.ts_base.specs.Vectors.{Position, Entry}
use Rattle.ts_match.specs.Meaning.{asks_for}
use Rattle.ts_match.proofs.Lists.{any_flat}
use Rattle.ts_match.proofs.Lookups.{met_any, met_weighed}
use Rattle.ts_match.proofs.Walks.{any_next, any_found}
use Rattle.ts_match.proofs.encoded.meets.Goals as goal

pub returns-then-any_weight : goal.returns-then-any_weight
returns-then-any_weight c = met_any c.args.vector.now c.args.operand.now c.args.found c.requires
    (sym c.any_weight.ensures ∙ c.if-any_weight.true)

pub loop-position-preserved : goal.loop-position-preserved
loop-position-preserved c =
    any_next (λ (p : Position). asks_for c.args.operand.now.weights p.weight) c.loop-position.position-iterator
    c.next.new.self c.in-Some.position c.in-Some.ensures.steps
    (ap (asks_for c.args.operand.now.weights) (sym c.weight.ensures) ∙ sym c.asked.ensures ∙ c.if-asked.false)
    ∙ c.loop-position.invariant

pub returns-then-asked : goal.returns-then-asked
returns-then-asked c =
    let test : Position → Bool = λ p. asks_for c.args.operand.now.weights p.weight in
    sym (met_weighed c.args.vector.now c.args.operand.now c.args.found c.requires
    (sym c.any_weight.ensures ∙ c.if-any_weight.false)
    ∙ sym
    (any_flat test (λ (e : Entry). e.positions) (slice_range c.args.vector.now c.args.found.first c.args.found.end))
    ∙ sym c.loop-position.invariant
    ∙ any_found test c.loop-position.position-iterator c.next.new.self c.in-Some.position c.in-Some.ensures.steps
    (ap (asks_for c.args.operand.now.weights) (sym c.weight.ensures) ∙ sym c.asked.ensures ∙ c.if-asked.true))

pub returns : goal.returns
returns c =
    let test : Position → Bool = λ p. asks_for c.args.operand.now.weights p.weight in
    sym (met_weighed c.args.vector.now c.args.operand.now c.args.found c.requires
    (sym c.any_weight.ensures ∙ c.if-any_weight.false)
    ∙ sym
    (any_flat test (λ (e : Entry). e.positions) (slice_range c.args.vector.now c.args.found.first c.args.found.end))
    ∙ sym c.loop-position.invariant
    ∙ ap (list_any test) c.in-None.ensures.steps.0)

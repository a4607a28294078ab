use Rattle.std.proofs.Common.{[], List, sym, ap, ◌∙◌, arith}
use Rattle.std.specs.List.{list_any}
use Rattle.ts_base.specs.Vectors.{Position, Entry}
use Rattle.ts_match.specs.Meaning.{asks_for}
use Rattle.ts_match.proofs.Lists.{none_in_part, some_in_part}
use Rattle.ts_match.proofs.Lookups.{met_any, met_weighed}
use Rattle.ts_match.proofs.ranges.meets.Goals as goal

nothing : Entry
nothing = record { lexeme = []; positions = [] }

pub returns-then-any_weight : goal.returns-then-any_weight
returns-then-any_weight c = met_any c.args.vector.now c.args.operand.now c.args.found c.requires
    (sym c.any_weight.ensures ∙ c.if-any_weight.true)

pub returns-then-has_weight : goal.returns-then-has_weight
returns-then-has_weight c = sym (
    met_weighed c.args.vector.now c.args.operand.now c.args.found c.requires
    (sym c.any_weight.ensures ∙ c.if-any_weight.false)
    ∙ some_in_part (λ (e : Entry). list_any (λ (p : Position). asks_for c.args.operand.now.weights p.weight)
    e.positions) c.args.vector.now c.args.found.first c.args.found.end c.loop-k.k nothing c.requires.within
    (omega arith) (omega arith)
    (ap (λ (ps : List Position). list_any (λ (p : Position). asks_for c.args.operand.now.weights p.weight) ps)
    (sym (c.positions.ensures nothing)) ∙ sym c.has_weight.ensures ∙ c.if-has_weight.true))

pub returns : goal.returns
returns c = sym (
    met_weighed c.args.vector.now c.args.operand.now c.args.found c.requires
    (sym c.any_weight.ensures ∙ c.if-any_weight.false)
    ∙ none_in_part (λ (e : Entry). list_any (λ (p : Position). asks_for c.args.operand.now.weights p.weight)
    e.positions) c.args.vector.now c.args.found.first c.args.found.end c.requires.within
    (λ j d l m. c.loop-k.invariant j d l (omega arith)))

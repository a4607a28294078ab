use Rattle.std.proofs.Common.{◌-◌, sym, ap, ◌∙◌, arith}
use Rattle.std.specs.List.{list_any, slice_range}
use Rattle.ts_base.specs.Vectors.{Entry}
use Rattle.ts_match.specs.declared.ranges.TheConstants.{FARTHEST}
use Rattle.ts_match.proofs.Lists.{any_flat}
use Rattle.ts_match.proofs.Searches.{here}
use Rattle.ts_match.proofs.Lookups.{stands_before, stands_by}
use Rattle.ts_match.proofs.Walks.{any_next, any_found}
use Rattle.ts_match.proofs.encoded.stands.Goals as goal

pub returns-then-sum-lt-FARTHEST : goal.returns-then-sum-lt-FARTHEST
returns-then-sum-lt-FARTHEST c = sym (stands_before c.args.vector.now c.args.operand.now c.args.sum (omega arith))

pub loop-position-preserved : goal.loop-position-preserved
loop-position-preserved c =
    any_next (here (c.args.sum - FARTHEST) c.args.operand.now.weights) c.loop-position.position-iterator c.next.new.self
    c.in-Some.position c.in-Some.ensures.steps
    (sym c.is_at.ensures ∙ c.if-is_at.false) ∙ c.loop-position.invariant

pub returns-then-is_at : goal.returns-then-is_at
returns-then-is_at c =
    let test = here (c.args.sum - FARTHEST) c.args.operand.now.weights in
    sym (stands_by c.args.vector.now c.args.operand.now c.args.found c.args.sum c.requires (omega arith)
    ∙ sym
    (any_flat test (λ (e : Entry). e.positions) (slice_range c.args.vector.now c.args.found.first c.args.found.end))
    ∙ sym c.loop-position.invariant
    ∙ any_found test c.loop-position.position-iterator c.next.new.self c.in-Some.position c.in-Some.ensures.steps
    (sym c.is_at.ensures ∙ c.if-is_at.true))

pub returns : goal.returns
returns c =
    let test = here (c.args.sum - FARTHEST) c.args.operand.now.weights in
    sym (stands_by c.args.vector.now c.args.operand.now c.args.found c.args.sum c.requires (omega arith)
    ∙ sym
    (any_flat test (λ (e : Entry). e.positions) (slice_range c.args.vector.now c.args.found.first c.args.found.end))
    ∙ sym c.loop-position.invariant
    ∙ ap (list_any test) c.in-None.ensures.steps.0)

use Rattle.std.proofs.Common.{◌≡◌, ℕ, ◌<◌, List, true, sym, ap, subst, ◌∙◌, arith}
use Rattle.ts_base.specs.Lexemes.{IsBefore}
use Rattle.ts_match.specs.Meaning.{names}
use Rattle.ts_match.proofs.Walks.{walk_from, walk_before, walk_named, walk_behind, walked_range, walked_all, walk_short}
use Rattle.ts_match.proofs.encoded.find.Goals as goal

pub loop-entry-init : goal.loop-entry-init
loop-entry-init c = walk_from c.args.vector.now c.args.operand.now c.into_iter-entry-iterator.result
    (c.into_iter-entry-iterator.ensures.into_iter_gives ∙ c.entries-entry-items.ensures.value)

pub overflow_add-end : goal.overflow_add-end
overflow_add-end c =
    let short : c.loop-entry.end < c.count-count.result = walk_short c.args.vector.now c.args.operand.now
    c.loop-entry.first c.loop-entry.end c.count-count.result c.loop-entry.entry-iterator c.in-Some.entry
    c.next.new.self c.loop-entry.invariant c.in-Some.ensures.steps c.count-count.ensures.count in
    omega (arith, c.count-count.type_inv)

pub overflow_add-end-in-Equal : goal.overflow_add-end-in-Equal
overflow_add-end-in-Equal c =
    let short : c.loop-entry.end < c.count-count.result = walk_short c.args.vector.now c.args.operand.now
    c.loop-entry.first c.loop-entry.end c.count-count.result c.loop-entry.entry-iterator c.in-Some.entry
    c.next.new.self c.loop-entry.invariant c.in-Some.ensures.steps c.count-count.ensures.count in
    omega (arith, c.count-count.type_inv)

pub loop-entry-preserved-in-Less : goal.loop-entry-preserved-in-Less
loop-entry-preserved-in-Less c =
    walk_before c.args.vector.now c.args.operand.now c.loop-entry.first c.loop-entry.end c.loop-entry.entry-iterator
    c.in-Some.entry c.next.new.self c.entries-entry-items.ensures.normal
    c.loop-entry.invariant c.in-Some.ensures.steps (subst (λ (x : List ℕ). IsBefore x c.args.operand.now.lexeme)
    c.lexeme.ensures.value (c.compare.ensures.before c.in-Less.is))

pub loop-entry-preserved : goal.loop-entry-preserved
loop-entry-preserved c =
    walk_named c.args.vector.now c.args.operand.now c.loop-entry.first c.loop-entry.end c.loop-entry.entry-iterator
    c.in-Some.entry c.next.new.self c.entries-entry-items.ensures.normal
    c.loop-entry.invariant c.in-Some.ensures.steps (subst (λ (x : List ℕ). names c.args.operand.now x ≡ true)
    c.lexeme.ensures.value (c.compare.ensures.named c.in-Equal.is))

pub returns-in-Greater : goal.returns-in-Greater
returns-in-Greater c =
    let b = c.compare.ensures.behind c.in-Greater.is in
    walked_range c.args.vector.now c.args.operand.now c.loop-entry.first c.loop-entry.end c.loop-entry.entry-iterator
    c.loop-entry.invariant
    (walk_behind c.args.vector.now c.args.operand.now c.loop-entry.first c.loop-entry.end c.loop-entry.entry-iterator
    c.in-Some.entry c.next.new.self c.entries-entry-items.ensures.normal
    c.loop-entry.invariant c.in-Some.ensures.steps
    (λ h. b.0 (subst (λ (x : List ℕ). IsBefore x c.args.operand.now.lexeme) (sym c.lexeme.ensures.value) h))
    (ap (names c.args.operand.now) (sym c.lexeme.ensures.value) ∙ b.1))

pub returns : goal.returns
returns c =
    walked_all c.args.vector.now c.args.operand.now c.loop-entry.first c.loop-entry.end c.count-count.result
    c.loop-entry.entry-iterator c.loop-entry.invariant c.in-None.ensures.steps.0
    c.count-count.ensures.count

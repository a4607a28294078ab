use Rattle.std.proofs.Common.{ℕ, List, nat_eq, sym, ap, ◌∙◌, arith}
use Rattle.std.specs.List.{starts_with}
use Rattle.ts_match.proofs.Lexemes.{begun_right, begun_left}
use Rattle.ts_match.proofs.ranges.end_of_prefix.Goals as goal

pub loop-low-preserved-then-begins_with : goal.loop-low-preserved-then-begins_with
loop-low-preserved-then-begins_with c =
    begun_right c.args.vector.now c.count-high.ensures.normal.rising c.args.prefix.now _ _ _ _ c.loop-low.invariant
    c.requires.above (omega arith) (omega arith)
    (λ d. ap (λ (x : List ℕ). starts_with nat_eq x c.args.prefix.now) (sym (c.lexeme.ensures d))
    ∙ sym c.begins_with.ensures ∙ c.if-begins_with.true)

pub loop-low-preserved : goal.loop-low-preserved
loop-low-preserved c =
    begun_left c.args.vector.now c.count-high.ensures.normal.rising c.args.prefix.now _ _ _ _ c.loop-low.invariant
    c.requires.above (omega arith) (omega arith)
    (λ d. ap (λ (x : List ℕ). starts_with nat_eq x c.args.prefix.now) (sym (c.lexeme.ensures d))
    ∙ sym c.begins_with.ensures ∙ c.if-begins_with.false)

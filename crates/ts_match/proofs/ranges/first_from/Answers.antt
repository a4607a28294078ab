use Rattle.std.proofs.Common.{ℕ, List, sym, ap, ◌∙◌, arith}
use Rattle.std.specs.Ordering.{nat_cmp}
use Rattle.std.specs.Cmp.Lexicographic.{slice_cmp}
use Rattle.ts_match.proofs.Lexemes.{halved_right, halved_left}
use Rattle.ts_match.proofs.ranges.first_from.Goals as goal

pub loop-low-preserved-in-Less : goal.loop-low-preserved-in-Less
loop-low-preserved-in-Less c =
    halved_right c.args.vector.now c.count-high.ensures.normal.rising c.args.lexeme.now _ _ _ c.loop-low.invariant
    (omega arith)
    (λ d. ap (λ (x : List ℕ). slice_cmp nat_cmp x c.args.lexeme.now) (sym (c.lexeme.ensures d)) ∙ ap (λ (x : List ℕ).
    slice_cmp nat_cmp c.lexeme.result.now x) (sym c.as_str.ensures.value) ∙ sym c.cmp.ensures ∙ c.in-Less.is)

pub loop-low-preserved : goal.loop-low-preserved
loop-low-preserved c =
    halved_left c.args.vector.now c.count-high.ensures.normal.rising c.args.lexeme.now _ _ _ c.loop-low.invariant
    (omega arith) (omega arith)
    (λ d e. c.in_default.not-Less (c.cmp.ensures ∙ ap (λ (x : List ℕ). slice_cmp nat_cmp c.lexeme.result.now x)
    c.as_str.ensures.value ∙ ap (λ (x : List ℕ). slice_cmp nat_cmp x c.args.lexeme.now) (c.lexeme.ensures d) ∙ e))

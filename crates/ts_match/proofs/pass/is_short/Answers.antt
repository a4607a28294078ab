use Rattle.std.proofs.Common.{ℕ, List, sym, ap, ◌∙◌}
use Rattle.std.specs.Ordering.{nat_cmp}
use Rattle.std.specs.Cmp.Lexicographic.{slice_cmp}
use Rattle.ts_match.proofs.Passes.{before_is_short, not_first, named_at_end, not_end}
use Rattle.ts_match.proofs.pass.is_short.Goals as goal

pub returns-in-Less-clause-yes : goal.returns-in-Less-clause-yes
returns-in-Less-clause-yes c = λ e. before_is_short c.args.operand.now c.args.side c.args.lexeme.now
    (ap (λ (x : List ℕ). slice_cmp nat_cmp c.args.lexeme.now x) (sym c.as_str.ensures.value) ∙ sym c.cmp.ensures
    ∙ c.in-Less.is)

pub returns-in-First-clause-no : goal.returns-in-First-clause-no
returns-in-First-clause-no c = λ e. not_first c.args.operand.now c.args.side c.args.lexeme.now c.in-First.is
    (λ h. c.in_default.not-Less
    (c.cmp.ensures ∙ ap (λ (x : List ℕ). slice_cmp nat_cmp c.args.lexeme.now x) c.as_str.ensures.value ∙ h))

pub returns-in-End-clause-yes : goal.returns-in-End-clause-yes
returns-in-End-clause-yes c =
    λ e. named_at_end c.args.operand.now c.args.side c.args.lexeme.now c.in-End.is (sym c.names.ensures ∙ e)

pub returns-in-End-clause-no : goal.returns-in-End-clause-no
returns-in-End-clause-no c = λ e. not_end c.args.operand.now c.args.side c.args.lexeme.now c.in-End.is
    (λ h. c.in_default.not-Less
    (c.cmp.ensures ∙ ap (λ (x : List ℕ). slice_cmp nat_cmp c.args.lexeme.now x) c.as_str.ensures.value ∙ h))
    (sym c.names.ensures ∙ e)

use Rattle.std.proofs.Common.{ℕ, List, sym, ap, ◌∙◌}
use Rattle.std.specs.Ordering.{nat_cmp}
use Rattle.std.specs.Cmp.Lexicographic.{slice_cmp}
use Rattle.ts_match.proofs.encoded.compare.Goals as goal

pub returns-in-Less-clause-before : goal.returns-in-Less-clause-before
returns-in-Less-clause-before c = λ e. ap (λ (x : List ℕ). slice_cmp nat_cmp c.args.lexeme.now x)
    (sym c.as_str.ensures.value) ∙ sym c.cmp.ensures ∙ c.in-Less.is

pub returns-then-names-clause-named : goal.returns-then-names-clause-named
returns-then-names-clause-named c = λ e. sym c.names.ensures ∙ c.if-names.true

pub returns-clause-behind : goal.returns-clause-behind
returns-clause-behind c = λ e. (
  λ h. c.in_default.not-Less
      (c.cmp.ensures ∙ ap (λ (x : List ℕ). slice_cmp nat_cmp c.args.lexeme.now x) c.as_str.ensures.value ∙ h),
  sym c.names.ensures ∙ c.if-names.false,
)

use Rattle.std.proofs.Common.{[], ap, sym, subst, ◌∙◌, Some}
use Rattle.ts_query.specs.Queries.{leaf, HasLexeme}
use Rattle.ts_query.specs.Tokens.{operand}
use Rattle.ts_query.proofs.Joined.{leaf_sound}
use Rattle.ts_query.proofs.query.TsQuery.operand.Goals as goal

pub finish-requires : goal.finish-requires
finish-requires c =
    let h : HasLexeme (operand c.in_ok-lexeme.lexeme c.args.weights c.args.prefix) =
    subst (λ l. HasLexeme (operand l c.args.weights c.args.prefix))
    (sym c.in_ok-lexeme.ensures.cases) c.as_str.ensures.valid in (
      Some (leaf (operand c.in_ok-lexeme.lexeme c.args.weights c.args.prefix)),
      c.in_ok-leaf.ensures.built [] c.new-builder.ensures,
      leaf_sound (operand c.in_ok-lexeme.lexeme c.args.weights c.args.prefix) h,
    )

pub returns-clause-value : goal.returns-clause-value
returns-clause-value c =
    c.finish.ensures.value (Some (leaf (operand c.in_ok-lexeme.lexeme c.args.weights c.args.prefix)))
    (c.in_ok-leaf.ensures.built [] c.new-builder.ensures)
    ∙ ap (λ l. Some (leaf (operand l c.args.weights c.args.prefix))) c.in_ok-lexeme.ensures.cases

use Rattle.std.proofs.Common.{◌∷◌, refl}
use Rattle.shell_script.specs.Grammar.{expr_tokens}
use Rattle.shell_script.specs.StatementView.{expr}
use Rattle.shell_script.specs.Tokens.{word}
use Rattle.shell_script.proofs.Spelling.{behind_one}
use Rattle.shell_script.proofs.statement.update_of.Goals as goal

pub returns-in_default-clause-none : goal.returns-in_default-clause-none
returns-in_default-clause-none c = λ d e h g k. c.in_default.ensures.none d (expr_tokens e) h k

pub returns-in_default-2-clause-none : goal.returns-in_default-2-clause-none
returns-in_default-2-clause-none c = λ d e h g k.
    let none = rw c.in_default-2.is at c.in_ok-expr.ensures.none in
    let o = behind_one c.args.rest.now (word c.in-Some.doc.text.now) c.in-Some.rest.now (word d.text)
    (expr_tokens e) c.in-Some.ensures.some.1 k in
    none e g o.1

pub returns-clause-some : goal.returns-clause-some
returns-clause-some c =
    let d = c.in-Some.doc in
    let e = c.in-Some-2.expr in
    let found = rw c.in-Some-2.is at c.in_ok-expr.ensures.some in (
      (c.in-Some.ensures.some.0, found.0),
      (word d.text.now ∷ expr_tokens (expr e), refl, c.in-Some.ensures.some.1.goes_on (expr_tokens (expr e)) found.1),
    )

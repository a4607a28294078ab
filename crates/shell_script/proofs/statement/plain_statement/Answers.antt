use Rattle.std.proofs.Common.{◌≡◌, [], ◌∷◌, codes, refl, sym, ◌∙◌, ap}
use Rattle.std.specs.String.{string_bytes}
use Rattle.shell_script.specs.Tokens.{word, quote}
use Rattle.shell_script.proofs.Saying.{show_or_parse, ask_or_parse, parse_or_commits, no_plain_body}
use Rattle.shell_script.proofs.statement.plain_statement.Goals as goal

pub returns-in_default-3-clause-none : goal.returns-in_default-3-clause-none
returns-in_default-3-clause-none c =
    let no = rw c.in_default-3.is at c.in_ok-text.ensures.none in
    let is : c.args.first.now ≡ codes "parse" = c.if-is_word-3.ensures.0 refl in
    no_plain_body c.args.first.now c.args.rest.now (λ e x n k. show_or_parse (sym e ∙ is))
    (λ e q n k. ask_or_parse (sym e ∙ is)) (λ e t k. no t k) (λ e k. parse_or_commits (sym is ∙ e))

pub returns-then-is_word-3-clause-some : goal.returns-then-is_word-3-clause-some
returns-then-is_word-3-clause-some c =
    let found = rw c.in-Some-3.is at c.in_ok-text.ensures.some in
    let is : c.args.first.now ≡ codes "parse" = c.if-is_word-3.ensures.0 refl in (
      tt,
      (
        quote (string_bytes c.in-Some-3.text) ∷ [],
        ap (λ w. word w ∷ quote (string_bytes c.in-Some-3.text) ∷ []) (sym is),
        found,
      ),
    )

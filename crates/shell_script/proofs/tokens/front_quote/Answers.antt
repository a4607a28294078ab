use Rattle.std.proofs.Common.{◌∷◌, [], sym, subst, List, ℕ}
use Rattle.std.specs.String.{string_bytes}
use Rattle.shell_script.specs.Tokens.{IsSpelled, ScriptToken, quote}
use Rattle.shell_script.specs.Inner.Fronts.{IsFirst, Fronts}
use Rattle.shell_script.proofs.Exprs.{if_found, if_missed}
use Rattle.shell_script.proofs.Spelling.{front_token, no_quoted, no_quote_first}
use Rattle.shell_script.proofs.tokens.front_quote.Goals as goal

pub returns-in-Some-clause-some : goal.returns-in-Some-clause-some
returns-in-Some-clause-some c =
    let gap = c.without_blanks.ensures.blanks in
    let inner = c.without_blanks.result.now in
    if_found c.quote_inside.result
    (λ r. IsFirst (39 ∷ c.in-Some.inside.now) (quote (string_bytes r.0)) r.1.now)
    (λ r. Fronts c.args.text.now (quote (string_bytes r.0) ∷ []) r.1.now)
    (λ r h. front_token c.args.text.now gap.0 inner
    (quote (string_bytes r.0)) r.1.now gap.1 gap.2 c.without_blanks.ensures.all
    (subst (λ z. IsFirst z (quote (string_bytes r.0)) r.1.now) (sym c.in-Some.ensures.some) h))
    c.quote_inside.ensures.some

pub returns-in-Some-clause-none : goal.returns-in-Some-clause-none
returns-in-Some-clause-none c =
    let gap = c.without_blanks.ensures.blanks in
    let inner = c.without_blanks.result.now in
    if_missed c.quote_inside.result
    ((t : ScriptToken) (r : List ℕ) → IsFirst (39 ∷ c.in-Some.inside.now) t r → ⊥)
    ((t : List ℕ) (ts : List ScriptToken) → IsSpelled c.args.text.now (quote t ∷ ts) → ⊥)
    (λ bad. no_quoted c.args.text.now gap.0 inner gap.1 gap.2 c.without_blanks.ensures.all
    (λ t r h. bad (quote t) r (subst (λ z. IsFirst z (quote t) r) c.in-Some.ensures.some h)))
    c.quote_inside.ensures.none

pub returns-in-None-clause-none : goal.returns-in-None-clause-none
returns-in-None-clause-none c =
    let gap = c.without_blanks.ensures.blanks in
    no_quoted c.args.text.now gap.0 c.without_blanks.result.now gap.1 gap.2 c.without_blanks.ensures.all
    (λ t r. no_quote_first c.without_blanks.result.now t r c.in-None.ensures.none)

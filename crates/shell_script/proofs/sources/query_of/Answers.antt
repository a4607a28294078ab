use Rattle.shell_script.proofs.Made.{no_query_word, no_made_query}
use Rattle.shell_script.proofs.FirstLines.{named_behind}
use Rattle.shell_script.specs.Tokens.{quote}
use Rattle.std.proofs.Common.{◌∷◌, []}
use Rattle.shell_script.proofs.sources.query_of.Goals as goal

pub returns-in_default-2-clause-none : goal.returns-in_default-2-clause-none
returns-in_default-2-clause-none c =
    let no = rw c.in_default-2.is at c.in_ok-text.ensures.none in
    no_query_word c.args.text.now c.in_default.ensures.none no

pub returns-in_default-front_name-clause-none : goal.returns-in_default-front_name-clause-none
returns-in_default-front_name-clause-none c =
    no_made_query c.args.text.now c.in-Some.found.now c.in-Some.rest.now c.in-Some.ensures.some
    (λ n t is k. c.in_default-front_name.ensures.none n (quote t ∷ []) is k)

pub returns-in-None-clause-none : goal.returns-in-None-clause-none
returns-in-None-clause-none c =
    let no = rw c.in-None.is at c.in_ok-text-2.ensures.none in
    no_made_query c.args.text.now c.in-Some.found.now c.in-Some.rest.now c.in-Some.ensures.some
    (λ n t is k. no t (named_behind c.in-Some.rest.now c.in-Some-front_name.config.now c.in-Some-front_name.rest.now
    n (quote t ∷ []) c.in-Some-front_name.ensures.front k).1)

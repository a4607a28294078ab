use Rattle.std.proofs.Common.{[], ◌∷◌, ap}
use Rattle.shell_script.specs.Tokens.{word}
use Rattle.shell_script.proofs.FirstTokens.{words_same}
use Rattle.shell_script.proofs.Spelling.{behind_one}
use Rattle.shell_script.proofs.docs.front_doc.Goals as goal

pub returns-in_default-clause-none : goal.returns-in_default-clause-none
returns-in_default-clause-none c = λ d ts h k. c.in_default.ensures.none d.text ts k

pub returns-in-None-clause-none : goal.returns-in-None-clause-none
returns-in-None-clause-none c = λ d ts h k.
    let o = behind_one c.args.text.now (word c.in-Some.found.now) c.in-Some.rest.now
    (word d.text) ts c.in-Some.ensures.some k in
    c.in-None.ensures.none d h (words_same d.text c.in-Some.found.now [] [] (ap (λ z. z ∷ []) o.0)).0

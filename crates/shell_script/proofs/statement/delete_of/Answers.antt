use Rattle.std.proofs.Common.{◌≡◌, true, false, [], ◌∷◌, refl}
use Rattle.shell_script.specs.Tokens.{word}
use Rattle.shell_script.proofs.Spelling.{behind_one}
use Rattle.shell_script.proofs.statement.delete_of.Goals as goal

pub returns-in_default-clause-none : goal.returns-in_default-clause-none
returns-in_default-clause-none c = λ d h k. c.in_default.ensures.none d [] h k

pub returns-then-is_all_blank-clause-some : goal.returns-then-is_all_blank-clause-some
returns-then-is_all_blank-clause-some c =
    let d = c.in-Some.doc in
    let blank = c.if-is_all_blank.ensures.0 refl in
    (c.in-Some.ensures.some.0, (word d.text.now ∷ [], refl, c.in-Some.ensures.some.1.goes_on [] blank))

pub returns-else-is_all_blank-clause-none : goal.returns-else-is_all_blank-clause-none
returns-else-is_all_blank-clause-none c = λ d h k.
    let o = behind_one c.args.rest.now (word c.in-Some.doc.text.now) c.in-Some.rest.now
    (word d.text) [] c.in-Some.ensures.some.1 k in
    let f : false ≡ true = c.if-is_all_blank.ensures.1 o.1 in
    cc

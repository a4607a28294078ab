use Rattle.std.proofs.Common.{subst}
use Rattle.std.proofs.lemmas.Bool.{false≢true}
use Rattle.shell_script.specs.OpeningLines.{IsName}
use Rattle.shell_script.proofs.FirstLines.{named_behind}
use Rattle.shell_script.proofs.opening_lines.front_name.Goals as goal

pub returns-in_default-clause-none : goal.returns-in_default-clause-none
returns-in_default-clause-none c = λ n ts k s. c.in_default.ensures.none n ts s

pub returns-else-is_name-clause-none : goal.returns-else-is_name-clause-none
returns-else-is_name-clause-none c = λ n ts k s.
    let o =
    named_behind c.args.text.now c.in-Some.found.now c.in-Some.rest.now n ts c.in-Some.ensures.some s in
    false≢true (c.if-is_name.ensures.1 (subst IsName o.0 k))

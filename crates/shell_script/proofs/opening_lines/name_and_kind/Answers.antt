use Rattle.shell_script.specs.OpeningLines.{kind_tokens}
use Rattle.shell_script.proofs.FirstLines.{named_behind}
use Rattle.shell_script.proofs.opening_lines.name_and_kind.Goals as goal

pub returns-in_default-clause-none : goal.returns-in_default-clause-none
returns-in_default-clause-none c = λ n k a b s. c.in_default.ensures.none n (kind_tokens k) a s

pub returns-in-None-clause-none : goal.returns-in-None-clause-none
returns-in-None-clause-none c = λ n k a b s. c.in-None.ensures.none k b
    (named_behind c.args.text.now c.in-Some.name.now c.in-Some.rest.now n (kind_tokens k) c.in-Some.ensures.front s).1

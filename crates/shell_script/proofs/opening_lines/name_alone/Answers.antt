use Rattle.std.proofs.Common.{[]}
use Rattle.std.proofs.lemmas.Bool.{false≢true}
use Rattle.shell_script.proofs.FirstLines.{named_behind}
use Rattle.shell_script.proofs.opening_lines.name_alone.Goals as goal

pub returns-in_default-clause-none : goal.returns-in_default-clause-none
returns-in_default-clause-none c = λ n k s. c.in_default.ensures.none n [] k s

pub returns-then-not-is_all_blank-clause-none : goal.returns-then-not-is_all_blank-clause-none
returns-then-not-is_all_blank-clause-none c = λ n k s.
    false≢true (c.if-not-is_all_blank.ensures.1
    (named_behind c.args.text.now c.in-Some.name.now c.in-Some.rest.now n [] c.in-Some.ensures.front s).1)

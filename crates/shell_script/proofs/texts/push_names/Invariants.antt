use Rattle.std.proofs.Common.{◌≡◌, ◌++◌, take}
use Rattle.shell_script.specs.Texts.{names_after}
use Rattle.shell_script.proofs.texts.push_names.Given as goal

abbrev pub invariant-loop-n : goal.invariant-loop-n
invariant-loop-n l = l.text.items ≡ l.fn.text.items ++ names_after l.before (take l.n-index l.names)

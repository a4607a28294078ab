use Rattle.std.proofs.Common.{◌≡◌, ◌++◌, map}
use Rattle.std.specs.Vec.Iter.{into_iter_items}
use Rattle.shell_script.specs.ReplyView.{commit_line}
use Rattle.shell_run.specs.Inner.Refusing.{names_line}
use Rattle.shell_run.proofs.answers.lines_of.Given as goal

abbrev pub invariant-loop-commit : goal.invariant-loop-commit
invariant-loop-commit l = record {
  done : map commit_line l.lines.items ≡ map names_line l.yielded;
  left : l.yielded ++ into_iter_items l.commit-iterator ≡ l.fn.commits.items;
}

use Rattle.std.proofs.Common.{◌++◌, map, length}
use Rattle.std.specs.List.{flat_map}
use denote.Text.{Utf8}
use denote.Shadow.{shadow}
use Rattle.shell_script.specs.Grammar.{IsExpr, part_tokens, joined_tokens}
use Rattle.shell_script.specs.Inner.Fronts.{Fronts}
use Rattle.shell_script.specs.StatementView.{part, expr}
use Rattle.shell_script.proofs.sources.expr_of.Given as goal

abbrev pub invariant-loop-rest : goal.invariant-loop-rest
invariant-loop-rest l = shadow (Utf8 l.rest)
    × Fronts l.text (part_tokens (part l.first) ++ flat_map joined_tokens (map part l.others.items)) l.rest
    × IsExpr (expr record { first = l.first; others = l.others })

abbrev pub decreases-loop-rest : goal.decreases-loop-rest
decreases-loop-rest l = length l.rest

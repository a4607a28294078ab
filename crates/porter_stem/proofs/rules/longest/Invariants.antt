use Rattle.std.proofs.Common.{◌≡◌, ◌≤◌, map, drop, length, IfSome}
use Rattle.porter_stem.specs.Tables.{longest_from, longest}
use Rattle.porter_stem.specs.Views.{rule_of, found_of}
use Rattle.porter_stem.proofs.rules.longest.Given as goal

abbrev pub invariant-loop-rule : goal.invariant-loop-rule
invariant-loop-rule l = record {
  best : longest_from l.word (found_of l.found) (map rule_of (drop l.rule-index l.rules))
      ≡ longest (map rule_of l.rules) l.word;
  fits : IfSome l.found (λ r. length r.suffix.now ≤ length l.word);
}

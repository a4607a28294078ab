use Rattle.std.proofs.Common.{◌≡◌, ◌++◌, ◌∷◌, length}
use Rattle.std.specs.Prelude.{All}
use Rattle.ts_config.specs.Rules.{answer_by, rules_of}
use Rattle.ts_config.specs.Phrases.{seen, answers_to}
use Rattle.ts_config.specs.Inner.Looking.{IsToken}
use Rattle.ts_config.proofs.phrases.Listed.answers.Given as goal

abbrev pub invariant-loop-ahead : goal.invariant-loop-ahead
invariant-loop-ahead l = record {
  tokens : All (IsToken l.text) l.ahead;
  rules : l.walk.rules ≡ l.self.thesaurus.now;
  so_far : answers_to (answer_by (rules_of l.self.sub.now)) l.text (seen l.config l.self.place (l.fn.first ∷ l.left))
      ≡ l.walk.answers ++ answers_to (answer_by (rules_of l.self.sub.now)) l.text (seen l.config l.self.place l.ahead);
}

abbrev pub decreases-loop-ahead : goal.decreases-loop-ahead
decreases-loop-ahead l = length l.ahead

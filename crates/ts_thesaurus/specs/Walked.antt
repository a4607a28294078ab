-- Answers that come one after another, as contracts see them.
use Rattle.std.specs.Prelude.{List}
use Rattle.ts_base.specs.Dictionary.{WordAnswer}
use Rattle.ts_thesaurus.specs.Rules.{Rule}

-- the rules, and the answers so far
pub record Walked : Type 0 where
  pub rules : List Rule
  pub answers : List WordAnswer

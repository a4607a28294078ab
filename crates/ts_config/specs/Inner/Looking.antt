-- What a thesaurus has seen of a text.
use Rattle.std.specs.Prelude.{◌≡◌, ◌⊎◌, ℕ, ◌≤◌, List, [], ◌∷◌, ◌++◌, true}
use Rattle.ts_base.specs.Dictionary.{WordAnswer}
use Rattle.ts_parser.specs.declared.iter.Token.{Token}
use Rattle.ts_parser.specs.Between.{IsBetween}
use Rattle.ts_thesaurus.specs.Rules.{Rule, Continues}
use Rattle.ts_config.specs.Mappings.{Mapping}
use Rattle.ts_config.specs.Phrases.{lists, seen}

-- a token with a byte at least, which cuts the text between characters
abbrev pub IsToken : List ℕ → Token → Type 0
IsToken text t = IsBetween text t × (1 ≤ t.length)

-- t is the first of the old tokens that is seen, and the new ones follow it
pub record IsNextSeen (mapping : Mapping) (place : ℕ) (old : List Token) (t : Token) (new : List Token) : Type 0 where
  pub front : List Token
  pub split : old ≡ front ++ t ∷ new
  pub listed : lists mapping place t ≡ true
  pub value : seen mapping place old ≡ t ∷ seen mapping place new

-- these are the first of all answers; more are there only where no rule goes on with these
pub record AreSeen (rules : List Rule) (all answers : List WordAnswer) : Type 0 where
  pub more : List WordAnswer
  pub split : all ≡ answers ++ more
  pub enough : (more ≡ []) ⊎ (¬ Continues rules answers)

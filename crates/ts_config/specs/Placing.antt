-- The placed lexemes of a text.
use Rattle.std.specs.Prelude.{◌≡◌, ℕ, ◌+◌, ◌≤◌, List, [], ◌∷◌, ◌++◌, map, All, AllPairs}
use Rattle.ts_base.specs.declared.Found.{Found}
use Rattle.ts_base.specs.Dictionary.{WordAnswer, unknown_word, stop_word, word_lexemes}
use Rattle.ts_parser.specs.declared.iter.Token.{Token}
use Rattle.ts_parser.specs.TokenList.{IsTokenList}
use Rattle.ts_config.specs.declared.placed.Placed.{Placed}
use Rattle.ts_config.specs.Mappings.{Mapping}
use Rattle.ts_config.specs.Known.{Known}
use Rattle.ts_config.specs.Parts.{AreParts}

abbrev pub placed_at : ℕ → Found → Placed
placed_at n f = record { lexeme = f.lexeme; prefix = f.prefix; position = n }

-- The answers to parts after the position n: a stop word takes a position, a token that nobody knows takes none, and
-- all lexemes of a part take one.
abbrev pub placed_from : ℕ → List WordAnswer → List Placed
placed_from n [] = []
placed_from n (unknown_word ∷ more) = placed_from n more
placed_from n (stop_word ∷ more) = placed_from (n + 1) more
placed_from n (word_lexemes found ∷ more) = map (placed_at (n + 1)) found ++ placed_from (n + 1) more

-- the parts of the text's tokens, placed
pub record ArePlaced (known : Known) (mapping : Mapping) (text : List ℕ) (placed : List Placed) : Type 0 where
  pub tokens : List Token
  pub answers : List WordAnswer
  pub list : IsTokenList text tokens
  pub parts : AreParts known mapping text tokens answers
  pub value : placed ≡ placed_from 0 answers

-- the placed lexemes of a text are one list
abbrev pub PlacedAreOne : Type 0
PlacedAreOne = (known : Known) (mapping : Mapping) (text : List ℕ) (p q : List Placed) → ArePlaced known mapping text p
    → ArePlaced known mapping text q → p ≡ q

-- positions are numbered from 1, and don't fall
abbrev pub PositionsRise : Type 0
PositionsRise = (known : Known) (mapping : Mapping) (text : List ℕ) (p : List Placed) → ArePlaced known mapping text p
    → All (λ x. 1 ≤ x.position) p × AllPairs (λ x y. x.position ≤ y.position) p

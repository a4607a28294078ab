-- Position groups: the lexemes that a text has at one position.
use Rattle.std.specs.Prelude.{◌≡◌, ℕ, ◌<◌, List, ◌∷◌, All, AllPairs}
use Rattle.std.specs.List.{flat_map}
use Rattle.ts_config.specs.declared.placed.Placed.{Placed}

-- one lexeme or more at one position
pub record Group : Type 0 where
  pub position : ℕ
  pub first : Placed
  pub others : List Placed

abbrev pub members : Group → List Placed
members g = g.first ∷ g.others

abbrev pub IsTogether : Group → Type 0
IsTogether g = All (λ p. p.position ≡ g.position) (members g)

-- The placed lexemes in turn, cut into groups of one position each; from group to group the
-- position rises.
pub record AreGroups (placed : List Placed) (groups : List Group) : Type 0 where
  pub whole : placed ≡ flat_map members groups
  pub together : All IsTogether groups
  pub rising : AllPairs (λ g h. g.position < h.position) groups

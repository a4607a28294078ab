-- The normal form of a list of items as they are written: in any order, a lexeme in many items, a position at any
-- number.
use Rattle.std.specs.Prelude.{◌≡◌, ℕ, ◌<◌, ◌≤◌, min, List, take, All, AllPairs, Any, Contains}
use Rattle.ts_base.specs.declared.TheConstants.{LAST_POSITION, MOST_POSITIONS}
use Rattle.ts_base.specs.declared.Weight.{Weight}
use Rattle.ts_base.specs.Lexemes.{IsBefore}
use Rattle.ts_base.specs.Vectors.{Position, Entry, Vector}
use Rattle.ts_base.specs.Encoding.{weight_number}

-- a number above 16383 counts as 16383
abbrev pub capped : Position → Position
capped p = record { at = min p.at LAST_POSITION; weight = p.weight }

-- some item has the lexeme
abbrev pub Names : List Entry → List ℕ → Type 0
Names items lexeme = Any (λ item. item.lexeme ≡ lexeme) items

-- some item has the lexeme at a position that counts as p
abbrev pub Places : List Entry → List ℕ → Position → Type 0
Places items lexeme p =
    Any (λ item. (item.lexeme ≡ lexeme) × Any (λ q. capped q ≡ p) item.positions) items

-- the lexeme is at p, and at this number with no higher weight
pub record IsHighest (items : List Entry) (lexeme : List ℕ) (p : Position) : Type 0 where
  pub placed : Places items lexeme p
  pub highest : (w : Weight) → Places items lexeme (record { at = p.at; weight = w })
      → weight_number w ≤ weight_number p.weight

-- the rising list of the positions of a lexeme, each number once and with its highest weight
pub record ListsPositions (items : List Entry) (lexeme : List ℕ) (all : List Position) : Type 0 where
  pub rising : AllPairs (λ p q. p.at < q.at) all
  pub only : All (IsHighest items lexeme) all
  pub each : (p : Position) → IsHighest items lexeme p → Contains all p

-- the 256 least positions of the lexeme
abbrev pub IsPlaced : List Entry → Entry → Type 0
IsPlaced items entry = (all : List Position) × ListsPositions items entry.lexeme all
    × (entry.positions ≡ take MOST_POSITIONS all)

-- the lexemes of the items in byte order, each once and with its 256 least positions
pub record IsNormalFormOf (items : List Entry) (vector : Vector) : Type 0 where
  pub rising : AllPairs (λ a b. IsBefore a.lexeme b.lexeme) vector
  pub only : All (λ entry. Names items entry.lexeme) vector
  pub each : (lexeme : List ℕ) → Names items lexeme → Names vector lexeme
  pub placed : All (IsPlaced items) vector

-- items have one normal form
abbrev pub NormalFormIsOne : Type 0
NormalFormIsOne = (items : List Entry) (v w : Vector) → IsNormalFormOf items v
    → IsNormalFormOf items w → v ≡ w

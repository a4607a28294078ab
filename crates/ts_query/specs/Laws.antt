-- Laws of the grammar.
use Rattle.std.specs.Prelude.{◌≡◌, ◌⊎◌, ◌↔◌, ℕ, List, ◌∷◌, ◌++◌, min}
use Rattle.std.specs.Str.Parse.{IsNumeral, digits_value}
use Rattle.ts_base.specs.Fault.{FaultAt, Stands}
use Rattle.ts_query.specs.declared.TheConstants.{PAST_DISTANCE}
use Rattle.ts_query.specs.Queries.{Query, IsSound}
use Rattle.ts_query.specs.Tokens.{Distance}
use Rattle.ts_query.specs.Grammar.{IsQueryText}
use Rattle.ts_query.specs.Printing.{printed}

-- a text has at most one value
abbrev pub OneValue : Type 0
OneValue = (text : List ℕ) (p q : Query) → IsQueryText text p → IsQueryText text q → p ≡ q

-- the printed text of a query is in the grammar, with that query as its value
abbrev pub PrintsBack : Type 0
PrintsBack = (q : Query) → IsSound q → IsQueryText (printed q) q

-- after `<`: `->`, for 1
pub record IsArrow (u : List ℕ) (distance : ℕ) (rest : List ℕ) : Type 0 where
  pub text : u ≡ 45 ∷ 62 ∷ rest
  pub value : distance ≡ 1

-- after `<`: decimal digits and `>`, for the number that the digits write; from 16385 on all numbers count as one
pub record IsDecimal (u : List ℕ) (distance : ℕ) (rest : List ℕ) : Type 0 where
  pub digits : List ℕ
  pub numeral : IsNumeral 10 digits
  pub text : u ≡ digits ++ 62 ∷ rest
  pub value : distance ≡ min (digits_value 10 digits) PAST_DISTANCE

-- a distance is an arrow or a decimal number, and nothing else
abbrev pub DistanceIsDecimal : Type 0
DistanceIsDecimal =
    (u : List ℕ) (distance : ℕ) (rest : List ℕ)
    → Distance u distance rest ↔ (IsArrow u distance rest ⊎ IsDecimal u distance rest)

-- a fault has one place
abbrev pub QueryFaultHasOnePlace : Type 0
QueryFaultHasOnePlace =
    (text : List ℕ) (m n : ℕ)
    → FaultAt (Stands Query IsQueryText) text m → FaultAt (Stands Query IsQueryText) text n → m ≡ n

-- a text with a fault is outside the grammar
abbrev pub QueryFaultIsOutside : Type 0
QueryFaultIsOutside =
    (text : List ℕ) (n : ℕ) → FaultAt (Stands Query IsQueryText) text n → (query : Query)
    → ¬ IsQueryText text query

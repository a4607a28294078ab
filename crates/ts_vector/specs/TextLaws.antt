-- What holds of every text of a vector.
use Rattle.std.specs.Prelude.{◌≡◌, ℕ, min, List, ◌∷◌, ◌++◌, All}
use Rattle.std.specs.Str.Parse.{digits_value}
use Rattle.ts_base.specs.declared.TheConstants.{LAST_POSITION}
use Rattle.ts_base.specs.declared.Weight.{Weight}
use Rattle.ts_base.specs.Bytes.{IsDigit, BeginsWithout}
use Rattle.ts_base.specs.Fault.{FaultAt, Stands}
use Rattle.ts_base.specs.Vectors.{Position, Vector}
use Rattle.ts_vector.specs.Text.{Written, PositionNumber, position, IsVectorText, IsTextOf}

-- a text has one list of items
abbrev pub TextHasOneList : Type 0
TextHasOneList =
    (text : List ℕ) (v w : List Written) → IsVectorText text v → IsVectorText text w → v ≡ w

-- a text has one value
abbrev pub TextHasOneValue : Type 0
TextHasOneValue = (text : List ℕ) (v w : Vector) → IsTextOf text v → IsTextOf text w → v ≡ w

-- a fault has one place
abbrev pub FaultHasOnePlace : Type 0
FaultHasOnePlace =
    (text : List ℕ) (m n : ℕ) → FaultAt (Stands (List Written) IsVectorText) text m
    → FaultAt (Stands (List Written) IsVectorText) text n → m ≡ n

-- a text with a fault is outside the grammar
abbrev pub FaultIsOutside : Type 0
FaultIsOutside =
    (text : List ℕ) (n : ℕ) → FaultAt (Stands (List Written) IsVectorText) text n
    → (v : List Written) → ¬ IsVectorText text v

-- A position's number is the decimal number of its digits, and 16383 where that is greater.
abbrev pub PositionHasItsNumber : Type 0
PositionHasItsNumber =
    (digits rest : List ℕ) (before all : List Position) (r : List ℕ) → All IsDigit digits → BeginsWithout IsDigit rest
    → PositionNumber 0 before (digits ++ rest) all r
    → (w : Weight) × (more : List Position)
    × (all ≡ before ++ position (min (digits_value 10 digits) LAST_POSITION) w ∷ more)

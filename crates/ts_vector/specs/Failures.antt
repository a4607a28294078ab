-- Why a vector is refused.
use Rattle.std.specs.Prelude.{◌≡◌, ℕ, ◌≤◌, ◌^◌, ◌-◌, min, List, ◌++◌}
use Rattle.ts_base.specs.declared.TheConstants.{SIZE_LIMIT}
use Rattle.ts_base.specs.Fault.{FaultAt, Stands}
use Rattle.ts_base.specs.Vectors.{Entry, Vector, content_size}
use Rattle.ts_vector.specs.declared.error.VectorError.{VectorError}
use Rattle.ts_vector.specs.declared.error.VectorError.TheVariants.{Syntax, LexemeTooLong, VectorTooLarge, BadBytes}
use Rattle.ts_vector.specs.declared.error.VectorError.TheVariants.{OutOfMemory}
use Rattle.ts_vector.specs.Normal.{IsNormalFormOf}
use Rattle.ts_vector.specs.Changes.{IsGreatest, shifted}
use Rattle.ts_vector.specs.Text.{Written, IsVectorText, FirstLong, AllShort, entries}

-- the text has these items, none too long, and the content of their normal form has so many bytes
pub record IsTooLargeText (text : List ℕ) (bytes : ℕ) : Type 0 where
  pub items : List Written
  pub vector : Vector
  pub text_of : IsVectorText text items
  pub fit : AllShort items
  pub form : IsNormalFormOf (entries items) vector
  pub size : bytes ≡ content_size vector
  pub large : SIZE_LIMIT ≤ bytes

-- why a text is refused: a fault in it, then the first lexeme of more than 2046 bytes, then its size
abbrev pub TextFails : List ℕ → VectorError → Type 0
TextFails text (Syntax n) = FaultAt (Stands (List Written) IsVectorText) text n
TextFails text (LexemeTooLong n) = (items : List Written) × IsVectorText text items
    × FirstLong items n
TextFails text (VectorTooLarge n) = IsTooLargeText text n
TextFails text (BadBytes n) = ⊥
TextFails text OutOfMemory = Unit {0}

-- the content of the items' normal form has so many bytes; the greatest number of a `usize` stands for any above it
pub record AreTooLarge (items : List Entry) (bytes : ℕ) : Type 0 where
  pub vector : Vector
  pub form : IsNormalFormOf items vector
  pub size : bytes ≡ min (content_size vector) (2 ^ 64 - 1)
  pub large : SIZE_LIMIT ≤ content_size vector

-- items are refused for their size alone
abbrev pub ItemsFail : List Entry → VectorError → Type 0
ItemsFail items (Syntax n) = ⊥
ItemsFail items (LexemeTooLong n) = ⊥
ItemsFail items (VectorTooLarge n) = AreTooLarge items n
ItemsFail items (BadBytes n) = ⊥
ItemsFail items OutOfMemory = Unit {0}

-- the join of two vectors has so much content
pub record IsTooLargeJoin (first second : Vector) (bytes : ℕ) : Type 0 where
  pub greatest : ℕ
  pub vector : Vector
  pub is_greatest : IsGreatest first greatest
  pub form : IsNormalFormOf (first ++ shifted greatest second) vector
  pub size : bytes ≡ content_size vector
  pub large : SIZE_LIMIT ≤ bytes

-- a join is refused for its size alone
abbrev pub JoinFails : Vector → Vector → VectorError → Type 0
JoinFails first second (Syntax n) = ⊥
JoinFails first second (LexemeTooLong n) = ⊥
JoinFails first second (VectorTooLarge n) = IsTooLargeJoin first second n
JoinFails first second (BadBytes n) = ⊥
JoinFails first second OutOfMemory = Unit {0}

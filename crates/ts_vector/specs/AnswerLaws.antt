-- That each refusal comes exactly where it has its cause.
use Rattle.std.specs.Prelude.{◌≡◌, ◌≢◌, ℕ, List, Result, Ok, Err}
use Rattle.ts_base.specs.Vectors.{Entry, Vector}
use Rattle.ts_vector.specs.Text.{IsTextOf}
use Rattle.ts_vector.specs.Changes.{IsBuiltOf, IsJoinOf}
use Rattle.ts_vector.specs.Failures.{TextFails, ItemsFail, JoinFails}
use Rattle.ts_vector.specs.declared.error.VectorError.{VectorError}
use Rattle.ts_vector.specs.declared.error.VectorError.TheVariants.{OutOfMemory}

-- what a text may be answered
abbrev pub IsTextAnswer : List ℕ → Result Vector VectorError → Type 0
IsTextAnswer text (Ok vector) = IsTextOf text vector
IsTextAnswer text (Err error) = TextFails text error

-- what items that are built may be answered
abbrev pub IsBuildAnswer : List Entry → Result Vector VectorError → Type 0
IsBuildAnswer items (Ok vector) = IsBuiltOf items vector
IsBuildAnswer items (Err error) = ItemsFail items error

-- what two vectors that are joined may be answered
abbrev pub IsJoinAnswer : Vector → Vector → Result Vector VectorError → Type 0
IsJoinAnswer first second (Ok vector) = IsJoinOf first second vector
IsJoinAnswer first second (Err error) = JoinFails first second error

-- running out of memory aside, there is one answer
abbrev pub HasOneAnswer : (Result Vector VectorError → Type 0) → Type 0
HasOneAnswer P =
    (a b : Result Vector VectorError) → a ≢ Err OutOfMemory → b ≢ Err OutOfMemory → P a → P b
    → a ≡ b

abbrev pub TextHasOneAnswer : Type 0
TextHasOneAnswer = (text : List ℕ) → HasOneAnswer (IsTextAnswer text)

abbrev pub JoinHasOneAnswer : Type 0
JoinHasOneAnswer = (first second : Vector) → HasOneAnswer (IsJoinAnswer first second)

abbrev pub BuildHasOneAnswer : Type 0
BuildHasOneAnswer = (items : List Entry) → HasOneAnswer (IsBuildAnswer items)

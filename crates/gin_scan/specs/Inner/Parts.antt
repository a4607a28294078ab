-- Long vectors, of which parts are read.
use Rattle.std.specs.Prelude.{◌≡◌, ◌⊎◌, ℕ, ◌^◌, ◌<◌, ◌≤◌, Bool, true, false, [], ◌∷◌, ◌++◌, length, Some}
use Rattle.std.specs.List.{slice_get}
use Rattle.std.specs.List.Sorted.{IsPermutation, IsNonDecreasingBy}
use Rattle.ts_base.specs.Vectors.{Vector}
use Rattle.page_types.specs.declared.page.Name.{Name}
use Rattle.gin_scan.specs.Inner.Heads.{TellsOf}
use Rattle.gin_scan.specs.declared.scan_core.ScanCore.{ScanCore}
use Rattle.gin_scan.specs.declared.stage.Stage.TheVariants as stage
use Rattle.gin_scan.specs.declared.stage.LongVector.{LongVector}

-- no part more is read of the vector that waits under this number
abbrev pub IsReadUp : ScanCore → ℕ → ℕ → ℕ → Type 0
IsReadUp s at page left =
    (page ≡ 0) ⊎ ((left ≡ 0) ⊎ ((l : LongVector) × (slice_get s.long.items at ≡ Some l)
    × (l.size < length s.bytes.items)))

-- Reading the vector that waits under this number begins; where there is none, the names are put in order.
pub data BeginsLong (old : ScanCore) (at : ℕ) (new : ScanCore) : Type 0 where
  next : (l : LongVector) → slice_get old.long.items at ≡ Some l → old.extent < 2 ^ 32 → new.bytes.items ≡ []
      → new ≡ record old { bytes = new.bytes; stage = stage.Parts at l.first old.extent }
      → BeginsLong old at new
  end : length old.long.items ≤ at → IsPermutation old.names.items new.names.items
      → IsNonDecreasingBy (λ (name : Name). name.serial) new.names.items
      → new ≡ record old { names = new.names; stage = stage.Done } → BeginsLong old at new

-- the name of the vector that waits under this number is taken, if the bytes that were read are as many
-- as it has and encode one that has the property
abbrev pub AddedIf : ScanCore → LongVector → Bool → ScanCore → Type 0
AddedIf old l true new =
    (new.names.items ≡ old.names.items ++ l.name ∷ []) × (new ≡ record old { names = new.names })
AddedIf old l false new = new ≡ old

pub record AddsIfTold (P : Vector → Type 0) (old : ScanCore) (at : ℕ) (new : ScanCore) : Type 0 where
  pub waits : LongVector
  pub is_there : slice_get old.long.items at ≡ Some waits
  pub answer : Bool
  pub told : length old.bytes.items ≡ waits.size → TellsOf P old.bytes.items answer
  pub other : (length old.bytes.items ≡ waits.size → ⊥) → answer ≡ false
  pub added : AddedIf old waits answer new

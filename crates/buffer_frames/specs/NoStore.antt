-- When two files are a store, and why they are none.
use Rattle.std.specs.Prelude.{◌≡◌, ◌≢◌, ◌↔◌, ℕ, List, [], ◌++◌, length}
use Rattle.disk_trait.specs.Files.{Files}
use Rattle.wal.specs.Batches.{front, AreBatches}
use Rattle.wal.specs.Reading.{IsForeign, IsBroken}
use Rattle.record_code.specs.Laws.{AreBytes}
use Rattle.core_state.specs.Log.{Log}
use Rattle.buffer_frames.specs.Counted.{AreRecords, IsCounted}
use Rattle.buffer_frames.specs.Applied.{CanApply}

-- these records of the log count, and each of their changes can be made to the page file
pub record IsStoreOf (files : Files) (R : Log) : Type 0 where
  pub counted : IsCounted files.log R
  pub applies : CanApply files.pages R

-- Files are no store where the log is foreign; where after some batches a set commit byte has no
-- batch; or where some batches, whose next commit byte is there, are not records that are
-- numbered on from 1 and can be applied.
pub data IsNoStore (files : Files) : Type 0 where
  foreign : IsForeign files.log → IsNoStore files
  broken : (read : List (List ℕ)) (rest : List ℕ) → AreBatches read → files.log ≡ front read ++ rest
      → IsBroken files.log (length (front read)) → IsNoStore files
  no_records : (read : List (List ℕ)) (rest : List ℕ) → AreBatches read
      → files.log ≡ front read ++ rest → rest ≢ []
      → ((R : Log) → AreRecords read R → CanApply files.pages R → ⊥) → IsNoStore files

-- files, of bytes, are no store exactly where no records count and can be applied
abbrev pub NoStoreIsNone : Type 0
NoStoreIsNone =
    (files : Files) → AreBytes files.log → IsNoStore files ↔ ((R : Log) → IsStoreOf files R → ⊥)

-- the records that count are one list
abbrev pub CountedAreOne : Type 0
CountedAreOne = (bytes : List ℕ) (R R' : Log) → IsCounted bytes R → IsCounted bytes R' → R ≡ R'

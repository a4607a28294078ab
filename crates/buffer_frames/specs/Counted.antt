-- The records that a log's batches hold.
use Rattle.std.specs.Prelude.{◌≡◌, ℕ, suc, List, [], ◌∷◌, ⊤, length, reverse}
use Rattle.std.specs.List.{flat_map}
use Rattle.wal.specs.Batches.{Opens}
use Rattle.page_types.specs.declared.record.Record.{Record}
use Rattle.core_state.specs.Log.{Log}
use Rattle.core_state.specs.Stores.{AreRecordsOf}

-- each batch has its records
abbrev pub AreRecordLists : List (List ℕ) → List (List Record) → Type 0
AreRecordLists [] [] = ⊤
AreRecordLists [] (rs ∷ lists) = ⊥
AreRecordLists (b ∷ batches) [] = ⊥
AreRecordLists (b ∷ batches) (rs ∷ lists) = AreRecordsOf b rs × AreRecordLists batches lists

-- each record has the number of its place, from 1
abbrev pub AreNumbered : Log → Type 0
AreNumbered [] = ⊤
AreNumbered (r ∷ R) = AreNumbered R × (r.number ≡ suc (length R))

-- the batches have the log's records, numbered on from 1
pub record AreRecords (batches : List (List ℕ)) (R : Log) : Type 0 where
  pub lists : List (List Record)
  pub each : AreRecordLists batches lists
  pub log_is : R ≡ reverse (flat_map (λ (rs : List Record). rs) lists)
  pub numbered : AreNumbered R

-- these are the records that count of a log file
pub record IsCounted (bytes : List ℕ) (R : Log) : Type 0 where
  pub batches : List (List ℕ)
  pub opens : Opens bytes batches
  pub records : AreRecords batches R

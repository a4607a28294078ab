-- The bytes of a store: batches of records, and the page file beside a log.
use Rattle.std.specs.Prelude.{◌≡◌, ℕ, ◌+◌, ◌*◌, ◌≤◌, List, length, take, drop}
use Rattle.std.specs.List.{flat_map, AllByRecursion}
use Rattle.page_types.specs.Numbers.{page_size}
use Rattle.page_types.specs.Records.{record_bytes, IsRecord}
use Rattle.page_types.specs.declared.record.Record.{Record}
use Rattle.core_state.specs.Log.{Log, replay, redo_of}
use Rattle.core_state.specs.Legal.{ChangesFrom}

-- the bytes are the encodings of these records, one after another
pub record AreRecordsOf (bytes : List ℕ) (records : List Record) : Type 0 where
  pub each : AllByRecursion IsRecord records
  pub encoded : bytes ≡ flat_map record_bytes records

-- the bytes of page p in a page file, as many as there are
abbrev pub page_in : List ℕ → ℕ → List ℕ
page_in bytes p = take page_size (drop (p * page_size) bytes)

-- the page is whole in the page file, with these bytes
pub record StandsWhole (file : List ℕ) (p : ℕ) (bytes : List ℕ) : Type 0 where
  pub whole : (p + 1) * page_size ≤ length file
  pub same : page_in file p ≡ bytes

-- Beside a log is a page file where each page that some record changes, and none from the redo
-- number on, is whole and is its replay, and each page that no record changes shows zeros.
pub record PagesStand (R : Log) (file : List ℕ) : Type 0 where
  pub settled : (p : ℕ) → ChangesFrom 0 R p → (ChangesFrom (redo_of R) R p → ⊥)
      → StandsWhole file p (replay R p)
  pub untouched : (p : ℕ) → (ChangesFrom 0 R p → ⊥)
      → AllByRecursion (λ (b : ℕ). b ≡ 0) (page_in file p)

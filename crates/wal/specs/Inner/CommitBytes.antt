-- What is at a commit byte of a log.
use Rattle.std.specs.Prelude.{◌≡◌, ◌≢◌, ◌⊎◌, ℕ, ◌+◌, ◌<◌, ◌≤◌, List, [], ◌∷◌, ◌++◌, length, get_or, take, drop}
use Rattle.byteorder.specs.Endian.{little_bytes}
use Rattle.wal.specs.Batches.{format_name, sealed}
use Rattle.wal.specs.declared.sizes.TheConstants.{HEADER_BYTES, LENGTH_BYTES, FRAME_BYTES, BATCH_LIMIT}

-- the name of the format and the first batch's commit byte, unset
abbrev pub name_and_commit_byte : List ℕ
name_and_commit_byte = format_name ++ 0 ∷ []

-- the store's commit byte is there and unset
pub record Unset (log : List ℕ) : Type 0 where
  pub commit_byte : ℕ
  pub rest : List ℕ
  pub is : log ≡ commit_byte ∷ rest
  pub unset : commit_byte ≢ 1
  pub short : length rest ≤ HEADER_BYTES

-- A batch is broken, seen from the commit byte before it: these are the first bytes from the commit
-- byte on, and
-- `room` is what the file has from there.
abbrev pub IsBrokenHead : List ℕ → ℕ → Type 0
IsBrokenHead head room =
    (length head ≡ 0)
    ⊎ ((get_or head 0 0 ≡ 1)
    × ((length head < FRAME_BYTES) ⊎ (room < FRAME_BYTES + 1)
    ⊎ ((n : ℕ) × (n < BATCH_LIMIT) × (take LENGTH_BYTES (drop 1 head) ≡ little_bytes LENGTH_BYTES n)
    × ((n ≡ 0) ⊎ (room ≤ FRAME_BYTES + n)))))

-- a set commit byte and a batch are at this place
pub record IsBatchAt (log : List ℕ) (at : ℕ) (batch : List ℕ) : Type 0 where
  pub some : 0 < length batch
  pub small : length batch < BATCH_LIMIT
  pub bytes : take (FRAME_BYTES + length batch) (drop at log) ≡ 1 ∷ sealed batch

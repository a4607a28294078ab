-- Reading a log from its first batch on.
use Rattle.std.specs.Prelude.{◌≡◌, ◌≢◌, ◌⊎◌, ℕ, ◌+◌, ◌<◌, ◌≤◌, List, [], ◌++◌, length, get_or, take, drop, false, None}
use Rattle.std.specs.Prelude.{Result, Ok, Err, true, Bool}
use Rattle.disk_trait.specs.Runs.{images_now, LeavesOnly}
use Rattle.disk_trait.specs.declared.device.Disk.{Ghosts as Disk}
use Rattle.byteorder.specs.Endian.{little_bytes}
use Rattle.wal.specs.Batches.{header, front, AreBatches, HasBatches, Opens}
use Rattle.wal.specs.Waiting.{end_of, limit_of, down_of, waiting}
use Rattle.wal.specs.declared.log.Wal.{Wal}
use Rattle.wal.specs.declared.sizes.TheConstants.{HEADER_BYTES, CREATED_BYTES, LENGTH_BYTES, FRAME_BYTES, BATCH_LIMIT}

-- a device that is only read keeps what it has
pub record IsOnlyRead {D : Type 0} (device : Disk D) (old new : D) : Type 0 where
  pub same : device.tells → device.seen new ≡ device.seen old
  pub any_moment : device.tells → LeavesOnly device old new (images_now device old)

-- The log is being read, and these batches were given. They are how it begins, and the next commit
-- byte is after them.
pub record IsReading (wal : Wal) (log : List ℕ) (batches : List (List ℕ)) : Type 0 where
  pub on : wal.ended ≡ false
  pub size : wal.size ≡ length log
  pub rest : List ℕ
  pub split : log ≡ front batches ++ rest
  pub place : end_of wal ≡ length (front batches)
  pub fit : AreBatches batches

-- nothing waits, and no call has failed
pub record IsFresh (wal : Wal) (limit : ℕ) : Type 0 where
  pub none : waiting wal ≡ []
  pub limit_is : limit_of wal ≡ limit
  pub up : down_of wal ≡ None

-- what only appends and flushes change
pub record IsSameBut (old new : Wal) : Type 0 where
  pub waits : waiting new ≡ waiting old
  pub limit_is : limit_of new ≡ limit_of old
  pub down_is : down_of new ≡ down_of old

-- not a log: byte 0 is unset though creation would not be cut short so, or it is set and the
-- header differs
abbrev pub IsForeign : List ℕ → Type 0
IsForeign log =
    ((CREATED_BYTES < length log) × (get_or log 0 0 ≢ 1))
    ⊎ ((get_or log 0 0 ≡ 1) × (CREATED_BYTES ≤ length log) × (take HEADER_BYTES log ≢ header))

-- the number in the four bytes after a commit byte
abbrev pub IsLengthAt : List ℕ → ℕ → ℕ → Type 0
IsLengthAt log at n = (n < BATCH_LIMIT) × (take LENGTH_BYTES (drop (at + 1) log) ≡ little_bytes LENGTH_BYTES n)

-- The commit byte at this place is set, and the batch after it is empty or passes the end of the
-- file, its next commit byte included.
abbrev pub IsBroken : List ℕ → ℕ → Type 0
IsBroken log at =
    (get_or log at 0 ≡ 1)
    × ((length log < at + FRAME_BYTES + 1)
    ⊎ ((n : ℕ) × IsLengthAt log at n × ((n ≡ 0) ⊎ (length log ≤ at + FRAME_BYTES + n))))

-- a batch was given, or none, and then `out` is empty
abbrev pub Gives : {E : Type 0} → Result Bool E → List ℕ → (List ℕ → Type 0) → Type 0
Gives (Ok true) out P = P out
Gives (Ok false) out P = out ≡ []
Gives (Err e) out P = out ≡ []

-- A log that opens to some batches is no foreign one, and after the batches that were read no
-- broken one is.
abbrev pub IsNeverForeign : Type 0
IsNeverForeign = (log : List ℕ) (batches : List (List ℕ)) → Opens log batches → IsForeign log → ⊥

abbrev pub IsNeverBroken : Type 0
IsNeverBroken =
    (log rest : List ℕ) (read batches : List (List ℕ)) → AreBatches read → log ≡ front read ++ rest
    → HasBatches log batches → IsBroken log (length (front read)) → ⊥

-- What waits in a log, and what a flush makes of it.
use Rattle.std.specs.Prelude.{◌≡◌, ℕ, ◌+◌, List, [], ◌∷◌, ◌++◌, length, drop, Bool, true, nat_le, if◌then◌else◌, Option}
use Rattle.disk_trait.specs.Runs.{images_now, IsSettled, LeavesOnly}
use Rattle.disk_trait.specs.declared.device.Disk.{Ghosts as Disk}
use Rattle.wal.specs.Settled.{Settled, BeforeOrAfter}
use Rattle.wal.specs.declared.log.Wal.{Wal}
use Rattle.wal.specs.declared.sizes.TheConstants.{LENGTH_BYTES, FRAME_BYTES, MOST_WAITING}

-- where the next commit byte is
abbrev pub end_of : Wal → ℕ
end_of wal = wal.end

abbrev pub limit_of : Wal → ℕ
limit_of wal = wal.limit

-- the device's count after the fault that brought the log down
abbrev pub down_of : Wal → Option ℕ
down_of wal = wal.down

abbrev pub waiting : Wal → List ℕ
waiting wal = drop LENGTH_BYTES wal.buffer.items

-- its batches have been read
abbrev pub IsReadToEnd : Wal → Type 0
IsReadToEnd wal = wal.ended ≡ true

-- what waited is one batch more, if there was something
abbrev pub with_waiting : List (List ℕ) → List ℕ → List (List ℕ)
with_waiting batches [] = batches
with_waiting batches (x ∷ xs) = batches ++ (x ∷ xs) ∷ []

-- and the next commit byte is after it: a commit byte and a length are five bytes
abbrev pub end_with : ℕ → List ℕ → ℕ
end_with end [] = end
end_with end (x ∷ xs) = end + FRAME_BYTES + length (x ∷ xs)

-- A flush comes before more waits where so many bytes do.
abbrev pub is_crowded : List ℕ → Bool
is_crowded w = nat_le MOST_WAITING (length w)

abbrev pub end_then : ℕ → List ℕ → ℕ
end_then end w = if is_crowded w then end + FRAME_BYTES + length w else end

abbrev pub waiting_then : List ℕ → List ℕ
waiting_then w = if is_crowded w then [] else w

-- The log's length with one entry more, up to and with the next commit byte: the own batch's commit
-- byte, its length, what waits, the entry, and that commit byte.
abbrev pub length_with : Wal → List ℕ → ℕ
length_with wal entry =
    end_then (end_of wal) (waiting wal) + FRAME_BYTES + length (waiting_then (waiting wal)) + length entry + 1

module _ {D : Type 0} (device : Disk D) where
  -- at each moment of a flush a crash leaves the batches with the one that is put, or without it
  abbrev pub FlushLeaves : List (List ℕ) → List ℕ → D → D → Type 0
  FlushLeaves batches batch old new =
      LeavesOnly device old new (BeforeOrAfter batches batch (images_now device old))

  -- the batches are there, no page was changed, and both files are settled if they were
  abbrev pub StandsNow : List (List ℕ) → ℕ → D → D → Type 0
  StandsNow batches end old new =
      Settled device batches end new × ((device.seen new).pages ≡ (device.seen old).pages)
      × (IsSettled device old → IsSettled device new)

-- What the calls of a device do to its files, to its clock and its counts, and to what a crash
-- leaves.
use Rattle.std.specs.Prelude.{◌≡◌, ◌⊎◌, ℕ, ◌+◌, ◌-◌, ◌^◌, ◌<◌, ◌≤◌, min, max, List, length, get_or, take, drop, Result}
use Rattle.std.specs.Prelude.{OnOk, OnErr}
use Rattle.disk_trait.specs.Files.{Files, file_bytes, other_bytes, overwritten}
use Rattle.disk_trait.specs.declared.device.File.{File}

-- a count stays at this number
abbrev pub last_count : ℕ
last_count = 2 ^ 64 - 1

-- a count that went from one number to another has risen: it is one more, or it is at the last
-- number
abbrev pub Rose : ℕ → ℕ → Type 0
Rose before now = min (before + 1) last_count ≤ now

-- `Failed` is answered only where the count rose, and always where it is at the last number
pub record HasCause {T E : Type 0} (before now : ℕ) (result : Result T E) : Type 0 where
  pub later : before ≤ now
  pub failed : OnErr result (Rose before now)
  pub below_last : OnOk result (before < last_count)

-- the count rose exactly where `Failed` is answered
pub record CountsFailures {T E : Type 0} (before now : ℕ) (result : Result T E) : Type 0 where
  pub later : before ≤ now
  pub at_ok : OnOk result (now ≡ before)
  pub at_err : OnErr result (Rose before now)
  pub below_last : OnOk result (before < last_count)

-- After a write of n bytes that was not synced: any bytes in the range and past the old end, the
-- others as they were.
pub record Torn (at n : ℕ) (old new : List ℕ) : Type 0 where
  pub no_shorter : length old ≤ length new
  pub no_longer : length new ≤ max (length old) (at + n)
  pub elsewhere : (i : ℕ) → i < length old → (i < at) ⊎ (at + n ≤ i)
      → get_or new i 0 ≡ get_or old i 0

-- of two files, one torn
pub record FileTorn (file : File) (at n : ℕ) (old new : Files) : Type 0 where
  pub torn : Torn at n (file_bytes file old) (file_bytes file new)
  pub same : other_bytes file new ≡ other_bytes file old

-- of two files, one written
pub record FileWritten (file : File) (at : ℕ) (bytes : List ℕ) (old new : Files) : Type 0 where
  pub written : file_bytes file new ≡ overwritten at bytes (file_bytes file old)
  pub same : other_bytes file new ≡ other_bytes file old

-- what a read of this many bytes gives
abbrev pub Reads : List ℕ → ℕ → List ℕ → ℕ → Type 0
Reads bytes at buf n =
    (n ≡ min (length buf) (length bytes - at)) × (take n buf ≡ take n (drop at bytes))

-- The moments of a device's time, and what a crash at each of them may have left.
abbrev pub Past : Type 1
Past = ℕ → Files → Type 0

-- Time goes on. What a crash may have left at a moment that has been stays so; at one in between it
-- leaves what it may leave at the end.
pub record Elapses (before now : ℕ) (past image : Past) : Type 0 where
  pub later : before ≤ now
  pub past_is : (m : ℕ) (c : Files) → m ≤ before → image m c → past m c
  pub keeps : (m : ℕ) (c : Files) → m ≤ before → past m c → image m c
  pub one_moment : (m : ℕ) (c : Files) → before < m → m ≤ now → image m c → image now c

-- a crash now leaves only what it could have left before
abbrev pub LeavesNoMore : (Files → Type 0) → (Files → Type 0) → Type 0
LeavesNoMore old new = (c : Files) → new c → old c

-- each image is an old one after this step
abbrev pub Follows : (Files → Files → Type 0) → (Files → Type 0) → (Files → Type 0) → Type 0
Follows step old new = (c : Files) → new c → (d : Files) × old d × step d c

-- each old image after this step is an image
abbrev pub LeavesAll : (Files → Files → Type 0) → (Files → Type 0) → (Files → Type 0) → Type 0
LeavesAll step old new = (d c : Files) → old d → step d c → new c

-- a crash now leaves these bytes in this file
abbrev pub Durable : File → List ℕ → (Files → Type 0) → Type 0
Durable file bytes images = (c : Files) → images c → file_bytes file c ≡ bytes

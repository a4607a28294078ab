-- What a run of calls does, by what its device says.
use Rattle.std.specs.Prelude.{◌≡◌, ℕ, ◌≤◌, ◌<◌, List, Result, OnOk, OnErr}
use Rattle.disk_trait.specs.Files.{Files, file_bytes}
use Rattle.disk_trait.specs.Device.{last_count, FileTorn, FileWritten, Durable, Rose}
use Rattle.disk_trait.specs.declared.device.File.{File}
use Rattle.disk_trait.specs.declared.device.Disk.{Ghosts as Disk}

-- an image, after the write was torn
abbrev pub TornFrom : File → ℕ → ℕ → (Files → Type 0) → Files → Type 0
TornFrom file at n images c = (d : Files) × images d × FileTorn file at n d c

module _ {D : Type 0} (device : Disk D) where
  -- what a crash now may leave
  abbrev pub images_now : D → Files → Type 0
  images_now d = device.image d (device.clock d)

  -- a crash now leaves what a read gives, in both files
  abbrev pub IsSettled : D → Type 0
  IsSettled d = (c : Files) → images_now d c → c ≡ device.seen d

  -- At each moment from old to new a crash leaves what has P. What was left before stays as it was.
  pub record LeavesOnly (old new : D) (P : Files → Type 0) : Type 0 where
    pub later : device.clock old ≤ device.clock new
    pub each : (m : ℕ) (c : Files) → device.clock old ≤ m → m ≤ device.clock new
        → device.image new m c → P c
    pub before : (m : ℕ) (c : Files) → m ≤ device.clock old → device.image new m c
        → device.image old m c
    pub keeps : (m : ℕ) (c : Files) → m ≤ device.clock old → device.image old m c
        → device.image new m c

  -- the write is in what a read gives and in what a crash leaves
  pub record IsWrittenThrough (file : File) (at : ℕ) (bytes : List ℕ) (old new : D) : Type 0 where
    pub written : FileWritten file at bytes (device.seen old) (device.seen new)
    pub durable : Durable file (file_bytes file (device.seen new)) (images_now new)

  -- A run of calls that write: the counts have risen where it failed, and no write failed where it
  -- was done.
  pub record RunHasCause {T E : Type 0} (old new : D) (result : Result T E) : Type 0 where
    pub later : (device.fault_count old ≤ device.fault_count new)
        × (device.write_fault_count old ≤ device.write_fault_count new)
    pub failed : OnErr result (Rose (device.fault_count old) (device.fault_count new))
    pub at_ok : OnOk result (device.write_fault_count new ≡ device.write_fault_count old)
    pub at_err : OnErr result (Rose (device.write_fault_count old) (device.write_fault_count new))
    pub below_last : OnOk result ((device.fault_count old < last_count)
        × (device.write_fault_count old < last_count))

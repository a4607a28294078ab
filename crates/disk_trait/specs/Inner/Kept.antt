-- What the parts of a call do to a device in memory.
use Rattle.std.specs.Prelude.{◌≡◌, ◌⊎◌, ℕ, ◌+◌, ◌<◌, ◌≤◌, Bool, true, false, List, Result, Ok, Err}
use Rattle.disk_trait.specs.Device.{last_count}
use Rattle.disk_trait.specs.Schedules.{GoesOn}
use Rattle.disk_trait.specs.MemoryDisk.{MustFailWrite}
use Rattle.disk_trait.specs.Inner.Pushed.{IsSameFile, HasWritten, HasSynced}
use Rattle.disk_trait.specs.declared.device.File.{File}
use Rattle.disk_trait.specs.declared.device.File.TheVariants.{Log, Pages}
use Rattle.disk_trait.specs.declared.disk.MemoryDisk.{MemoryDisk}

abbrev pub IsSameCount : MemoryDisk → MemoryDisk → Type 0
IsSameCount old new = (new.schedule ≡ old.schedule) × (new.write_faults ≡ old.write_faults)

abbrev pub HasKept : MemoryDisk → MemoryDisk → Type 0
HasKept old new = IsSameFile old.log new.log × IsSameFile old.pages new.pages × IsSameCount old new

abbrev pub HasWrittenTo : File → ℕ → List ℕ → Bool → MemoryDisk → MemoryDisk → Type 0
HasWrittenTo Log at bytes done old new =
    HasWritten old.schedule.calls at bytes done old.log new.log × IsSameFile old.pages new.pages
    × IsSameCount old new
HasWrittenTo Pages at bytes done old new =
    IsSameFile old.log new.log × HasWritten old.schedule.calls at bytes done old.pages new.pages
    × IsSameCount old new

abbrev pub HasSyncedFile : File → MemoryDisk → MemoryDisk → Type 0
HasSyncedFile Log old new =
    HasSynced old.schedule.calls old.log new.log × IsSameFile old.pages new.pages
    × IsSameCount old new
HasSyncedFile Pages old new =
    IsSameFile old.log new.log × HasSynced old.schedule.calls old.pages new.pages
    × IsSameCount old new

-- a call that leaves both files as they are
pub record IsIdle (old new : MemoryDisk) : Type 0 where
  pub log : IsSameFile old.log new.log
  pub pages : IsSameFile old.pages new.pages
  pub later : (old.schedule.calls ≤ new.schedule.calls)
      × (new.schedule.calls ≤ old.schedule.calls + 1)

-- the call was counted, and nothing else is done
pub record HasBegunCall (old new : MemoryDisk) (goes : Bool) : Type 0 where
  pub files : (new.log ≡ old.log) × (new.pages ≡ old.pages)
  pub calls : GoesOn old.schedule.calls new.schedule.calls
  pub counts : (new.schedule.fails ≡ old.schedule.fails)
      × (new.schedule.faults ≡ old.schedule.faults) × (new.write_faults ≡ old.write_faults)
  pub goes_on : goes ≡ true → MustFailWrite old → ⊥
  pub fails : goes ≡ false → MustFailWrite old
  pub room : goes ≡ true → (old.schedule.faults < last_count) × (old.write_faults < last_count)

-- at the moment of the call, which is the next one, this step was taken
abbrev pub Steps : (MemoryDisk → MemoryDisk → Type 0) → MemoryDisk → MemoryDisk → Type 0
Steps step old new =
    (mid : MemoryDisk) × (mid.log ≡ old.log) × (mid.pages ≡ old.pages)
    × (mid.schedule.calls ≡ old.schedule.calls + 1) × step mid new

-- whether a call was done. Running out of memory is the error.
abbrev pub is_done : {E : Type 0} → Result Bool E → Bool
is_done (Ok done) = done
is_done (Err e) = false

-- A write is kept, one that failed too. It is not where the clock is still, and where there is
-- no memory.
abbrev pub KeepsWrite : {E : Type 0} → File → ℕ → List ℕ → MemoryDisk → MemoryDisk → Result Bool E
    → Type 0
KeepsWrite file at bytes old new (Ok done) =
    ((done ≡ false) × (old.schedule.calls ≡ last_count) × IsIdle old new)
    ⊎ Steps (HasWrittenTo file at bytes done) old new
KeepsWrite file at bytes old new (Err e) = IsIdle old new

-- a sync is kept where it is done
abbrev pub KeepsSync : {E : Type 0} → File → MemoryDisk → MemoryDisk → Result Bool E → Type 0
KeepsSync file old new (Ok true) = Steps (HasSyncedFile file) old new
KeepsSync file old new (Ok false) = IsIdle old new
KeepsSync file old new (Err e) = IsIdle old new

-- what a call that writes counts before it answers
pub record Tries {E : Type 0} (old new : MemoryDisk) (tried : Result Bool E) : Type 0 where
  pub calls : GoesOn old.schedule.calls new.schedule.calls
  pub counts : (new.schedule.fails ≡ old.schedule.fails)
      × (new.schedule.faults ≡ old.schedule.faults) × (new.write_faults ≡ old.write_faults)
  pub goes_on : is_done tried ≡ true → MustFailWrite old → ⊥
  pub fails : tried ≡ Ok false → MustFailWrite old
  pub room : is_done tried ≡ true → (old.schedule.faults < last_count)
      × (old.write_faults < last_count)

-- the counts may differ
abbrev pub SameFiles : MemoryDisk → MemoryDisk → Type 0
SameFiles old new =
    (new.log ≡ old.log) × (new.pages ≡ old.pages) × (new.schedule.calls ≡ old.schedule.calls)

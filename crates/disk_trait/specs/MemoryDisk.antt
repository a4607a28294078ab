-- A device in memory: its counts, its files, and which writes fail.
use Rattle.std.specs.Prelude.{◌≡◌, ◌⊎◌, ◌↔◌, ℕ, Vec, Result, IsErr}
use Rattle.std.specs.declared.alloc.Global.{Global}
use Rattle.disk_trait.specs.Files.{Files}
use Rattle.disk_trait.specs.Device.{last_count, HasCause, CountsFailures, Elapses, LeavesNoMore}
use Rattle.disk_trait.specs.Schedules.{MustFail, HasCounted, HasRisen}
use Rattle.disk_trait.specs.Events.{LeftAt}
use Rattle.disk_trait.specs.declared.disk.MemoryDisk.{MemoryDisk}
use Rattle.disk_trait.specs.declared.schedule.Schedule.{Schedule}

-- its calls, of which the number is its clock, and the counts of its faults
abbrev pub schedule_of : MemoryDisk → Schedule
schedule_of d = d.schedule

abbrev pub clock_of : MemoryDisk → ℕ
clock_of d = d.schedule.calls

abbrev pub faults_of : MemoryDisk → ℕ
faults_of d = d.schedule.faults

abbrev pub write_faults_of : MemoryDisk → ℕ
write_faults_of d = d.write_faults

-- what a read gives
abbrev pub seen_of : MemoryDisk → Files
seen_of d = record { log = d.log.bytes.items; pages = d.pages.bytes.items }

-- what a crash at a moment may have left
abbrev pub image_of : MemoryDisk → ℕ → Files → Type 0
image_of d m c =
    LeftAt d.log.first.items d.log.events.items m c.log
    × LeftAt d.pages.first.items d.pages.events.items m c.pages

-- The next write or sync fails, if memory does not run out before.
abbrev pub MustFailWrite : MemoryDisk → Type 0
MustFailWrite d = MustFail d.schedule ⊎ (d.write_faults ≡ last_count)

-- the same device, with another list of the calls that fail
abbrev pub with_fails : MemoryDisk → Vec ℕ Global → MemoryDisk
with_fails d fails = record d { schedule = record d.schedule { fails = fails } }

-- A call that only asks: no byte is another, and a crash leaves what it could have left. It is
-- counted, and fails exactly where it must.
pub record OnlyAsks {T E : Type 0} (old new : MemoryDisk) (result : Result T E) : Type 0 where
  pub seen : seen_of new ≡ seen_of old
  pub crash : LeavesNoMore (image_of old (clock_of old)) (image_of new (clock_of new))
  pub keeps : LeavesNoMore (image_of new (clock_of new)) (image_of old (clock_of old))
  pub time : Elapses (clock_of old) (clock_of new) (image_of old) (image_of new)
  pub cause : HasCause (faults_of old) (faults_of new) result
  pub writes : write_faults_of new ≡ write_faults_of old
  pub counted : HasCounted (schedule_of old) (schedule_of new) result
  pub fails : IsErr result ↔ MustFail (schedule_of old)

-- A call that writes is counted, and where it failed a fault of a write too. It fails where it must.
pub record CountsWrite {T E : Type 0} (old new : MemoryDisk) (result : Result T E) : Type 0 where
  pub cause : HasCause (faults_of old) (faults_of new) result
  pub writes : CountsFailures (write_faults_of old) (write_faults_of new) result
  pub counted : HasCounted (schedule_of old) (schedule_of new) result
  pub counted_write : HasRisen (write_faults_of old) (write_faults_of new) result
  pub fails : MustFailWrite old → IsErr result

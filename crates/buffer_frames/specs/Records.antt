-- What the records of a log are read into.
use Rattle.std.specs.Prelude.{◌≡◌, ℕ, List}
use Rattle.std.specs.List.{AllByRecursion}
use Rattle.disk_trait.specs.declared.device.Disk.{Ghosts as Disk}
use Rattle.wal.specs.Settled.{LogIs, Settled}
use Rattle.wal.specs.Waiting.{end_of, IsReadToEnd}
use Rattle.wal.specs.declared.log.Wal.{Wal}
use Rattle.page_types.specs.Records.{IsRecord}
use Rattle.core_state.specs.Log.{Log}
use Rattle.core_state.specs.States.{StateValue, state_of}
use Rattle.buffer_frames.specs.Counted.{AreNumbered, AreRecords}
use Rattle.buffer_frames.specs.NoStore.{IsStoreOf}
use Rattle.buffer_frames.specs.Maps.{HasApplied}
use Rattle.buffer_frames.specs.declared.page_map.PageMap.{PageMap}

-- The records of the log were read into a state and a map of pages. On a device that says what it
-- holds they are those of its files, and where a crash leaves the log that is read, all is.
pub record AreRead {D : Type 0} (device : Disk D) (old new : D) (wal : Wal) (state : StateValue)
    (map : PageMap) (R : Log) : Type 0 where
  pub numbered : AreNumbered R
  pub each : AllByRecursion IsRecord R
  pub state_is : state ≡ state_of state.pages state.xid_limit R
  pub to_end : IsReadToEnd wal
  pub store : device.tells → IsStoreOf (device.seen old) R
  pub pages : device.tells → HasApplied (device.seen old).pages R map
  pub settled : device.tells → LogIs device (device.seen old).log old
      → (batches : List (List ℕ)) × Settled device batches (end_of wal) new × AreRecords batches R
